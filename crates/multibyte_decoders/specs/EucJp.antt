-- The EUC-JP decoder (Encoding Standard, "EUC-JP decoder").
use Rattle.std.specs.Prelude.{ℕ, ◌+◌, ◌-◌, ◌*◌, Bool, ◌&&◌, ◌||◌, ◌==◌, [], Option, Some, None, if◌then◌else◌}
use Rattle.decoder_core.specs.declared.item.Item.TheVariants.{One, Error}
use Rattle.decoder_core.specs.{Queue.Turn, Forms.gives, Forms.holds, Forms.finishes, Forms.within}
use Rattle.index_loader.specs.Index.{Loaded}
use Rattle.multibyte_decoders.specs.declared.euc_jp.EucJpState.{EucJpState, TheVariants.Idle, TheVariants.Lead, TheVariants.Jis0212Lead}
use Rattle.multibyte_decoders.specs.Pairs.{ascii_item, begins, completes, one_of}

abbrev pub is_euc_jp_lead : ℕ → Bool
is_euc_jp_lead b = b == 0x8E || b == 0x8F || within 0xA1 0xFE b

abbrev pub euc_jp_pointer : ℕ → ℕ → ℕ
euc_jp_pointer lead b = (lead - 0xA1) * 94 + (b - 0xA1)

-- a pair in index jis0208, or in jis0212 where the flag is set
abbrev pub euc_jp_pair : (ℕ → Option ℕ) → ℕ → ℕ → Option ℕ
euc_jp_pair index lead b =
    if within 0xA1 0xFE lead && within 0xA1 0xFE b then index (euc_jp_pointer lead b) else None

-- a byte after a lead: 8E begins a half-width katakana, 8F sets the jis0212 flag
abbrev pub euc_jp_second : (ℕ → Option ℕ) → ℕ → ℕ → Turn EucJpState
euc_jp_second jis0208 lead b =
    if lead == 0x8E && within 0xA1 0xDF b then gives Idle (One (0xFF61 - 0xA1 + b)) []
    else if lead == 0x8F && within 0xA1 0xFE b then holds (Jis0212Lead b)
    else completes Idle (one_of (euc_jp_pair jis0208 lead b)) b

-- the state is the pending lead with the jis0212 flag, which is set only while a lead is pending
abbrev pub euc_jp : (ℕ → Option ℕ) → (ℕ → Option ℕ) → EucJpState → Option ℕ → Turn EucJpState
euc_jp jis0208 jis0212 Idle None = finishes Idle
euc_jp jis0208 jis0212 (Lead lead) None = gives Idle Error []
euc_jp jis0208 jis0212 (Jis0212Lead lead) None = gives Idle Error []
euc_jp jis0208 jis0212 Idle (Some b) = begins Idle (is_euc_jp_lead b) (Lead b) (ascii_item b)
euc_jp jis0208 jis0212 (Lead lead) (Some b) = euc_jp_second jis0208 lead b
euc_jp jis0208 jis0212 (Jis0212Lead lead) (Some b) = completes Idle (one_of (euc_jp_pair jis0212 lead b)) b

-- the decoder's two indexes
pub record EucJpIndexes : Type 0 where
  pub jis0208 : Loaded
  pub jis0212 : Loaded
