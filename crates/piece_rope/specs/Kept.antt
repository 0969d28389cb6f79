-- What a document keeps, and how far the meter rises with an edit.
use Rattle.std.specs.Prelude.{◌≡◌, ℕ, ◌+◌, ◌-◌, ◌<◌, ◌≤◌, true, List, map, take, length, ◌++◌, Some}
use Rattle.enc_names.specs.declared.setting.Setting.{Setting}
use Rattle.index_loader.specs.Files.{Files, has_files}
use Rattle.state_memo.specs.Decoding.{AnyDecoding, decoder_in, state_behind}
use Rattle.state_memo.specs.{declared.outcome.Outcome.Outcome, Outcome.contents_of, Outcome.ending_of, Facts.IsSumOf, Sums.joined}
use Rattle.piece_rope.specs.{Entry.Entry, Entry.here_of, Entry.texts_of, Entry.items_of, Entry.sums_of, Chain.bytes_of, Document.Document, Document.document}
use Rattle.piece_rope.specs.{Edit.IsRope, Edits.document_limit, Edits.spliced, Made.IsWhole, Room.all_beside, Room.room_in, Sizes.AreCounted, Sizes.HasSizes}

-- by the decoder of its setting
pub record IsKept (files : Files) (setting : Setting) (ps : List Entry) (tail : Outcome) : Type 0 where
  pub can : has_files files setting.given ≡ true
  pub within : length (bytes_of ps) ≤ document_limit
  pub counted : AreCounted ps
  pub sizes : HasSizes ps
  pub rope : (d : AnyDecoding) → decoder_in files setting ≡ Some d → IsRope d ps tail.exit
  pub whole : IsWhole (document files setting (bytes_of ps)) (map here_of ps) tail
  pub numbers : IsSumOf (texts_of ps ++ tail.text) (items_of ps ++ tail.items) (joined (sums_of ps) tail.sum)
  pub no_bytes : tail.sum.bytes ≡ 0
  pub lean : all_beside ps ≤ room_in (bytes_of ps)
  pub tail_is : (d : AnyDecoding) → decoder_in files setting ≡ Some d → contents_of tail ≡ ending_of d tail.exit

-- `m` bytes after the edit the new document is in the old one's state, or the bytes end there; the least such m is the resync distance
abbrev pub Resyncs : Document → ℕ → ℕ → List ℕ → ℕ → Type 0
Resyncs d at del ins m =
    m < length d.bytes - (at + del)
    → state_behind d.indexes d.setting (take (at + length ins + m) (spliced d.bytes at del ins)) ≡ state_behind d.indexes d.setting
    (take (at + del + m) d.bytes)
