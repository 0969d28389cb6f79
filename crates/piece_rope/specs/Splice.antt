-- A splice that is ready to be made.
use Rattle.std.specs.Prelude.{◌≡◌, ℕ, List, drop, Some}
use Rattle.enc_names.specs.declared.setting.Setting.{Setting}
use Rattle.index_loader.specs.Files.{Files}
use Rattle.state_memo.specs.Decoding.{AnyDecoding, decoder_in}
use Rattle.piece_rope.specs.declared.edit.PreparedEdit.{PreparedEdit}
use Rattle.piece_rope.specs.{Chain.AreRenewed, Chain.bytes_of, Edit.edited, Edits.spliced, Entry.Entry, Kept.IsKept, Parts.IsPrepared, Sizes.CanJoin}

-- its pieces are those of a document with the bytes spliced, and can be put in place
pub record IsReady (files : Files) (setting : Setting) (ps : List Entry) (at del : ℕ) (ins : List ℕ) (e : PreparedEdit) : Type 0 where
  pub prepared : IsPrepared ps e
  pub renewals : AreRenewed (drop e.last ps) e.renewals.items
  pub old : CanJoin ps
  pub new : CanJoin (edited ps e)
  pub bytes : bytes_of (edited ps e) ≡ spliced (bytes_of ps) at del ins
  pub kept : IsKept files setting (edited ps e) e.tail
  pub decoder : AnyDecoding
  pub chosen : decoder_in files setting ≡ Some decoder
