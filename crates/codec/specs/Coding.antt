-- The decoder of each encoding (Encoding Standard, the decoder of each encoding).
use Rattle.std.specs.Prelude.{ℕ, List, Option, Some, None}
use Rattle.index_loader.specs.declared.family.Family.{Family}
use Rattle.index_loader.specs.declared.family.Family.TheVariants as of
use Rattle.index_loader.specs.Index.{Loaded, code_point_of}
use Rattle.decoder_core.specs.{declared.item.Ended.Ended, Queue.Table, Queue.run, Queue.feed, Utf8.Utf8, Utf8.utf8, Utf8.utf8_start}
use Rattle.decoder_core.specs.declared.one_byte.OneByteState.{OneByteState, TheVariants.Idle as one_byte_idle}
use Rattle.decoder_core.specs.declared.replacement.ReplacementState.{ReplacementState, TheVariants.Unread}
use Rattle.decoder_core.specs.declared.utf16.ByteOrder.TheVariants.{BigEndian, LittleEndian}
use Rattle.decoder_core.specs.{Utf16.Utf16, Utf16.utf16, Utf16.utf16_start, SingleByte.single_byte, XUserDefined.x_user_defined, Replacement.replacement}
use Rattle.multibyte_decoders.specs.declared.pairs.PairState.{PairState}
use Rattle.multibyte_decoders.specs.declared.{pairs.PairState.TheVariants.Idle, euc_jp.EucJpState.EucJpState, euc_jp.EucJpState.TheVariants.Idle as euc_jp_idle}
use Rattle.multibyte_decoders.specs.declared.gb18030.Gb18030State.{Gb18030State, TheVariants.Idle as gb18030_idle}
use Rattle.multibyte_decoders.specs.{EucJp.euc_jp, Gb18030.gb18030, PairRules.rule_of, Pairs.pair_decoder}
use Rattle.iso2022jp.specs.Iso2022Jp.{Iso2022Jp, iso_2022_jp, iso_2022_jp_start}

-- a decoder: its states, what it does in each, and the first of them
pub record Coding : Type 1 where
  pub State : Type 0
  pub table : Table State
  pub start : State

-- look-ups in an index; an index that isn't loaded has no code point
abbrev pub looked_up : Option Loaded → ℕ → Option ℕ
looked_up (Some index) = code_point_of index
looked_up None = λ pointer. None

-- the decoder of each family over the indexes that are there
abbrev pub coding : Family (Option Loaded) → Coding
coding of.Utf8 = record { State = Utf8; table = utf8; start = utf8_start }
coding (of.SingleByte index) = record { State = OneByteState; table = single_byte (looked_up index); start = one_byte_idle }
coding (of.Gb18030 index ranges) = record { State = Gb18030State; table = gb18030 (looked_up index) (looked_up ranges); start = gb18030_idle }
coding (of.Pair encoding index) = record { State = PairState; table = pair_decoder (rule_of encoding) (looked_up index); start = Idle }
coding (of.EucJp jis0208 jis0212) = record { State = EucJpState; table = euc_jp (looked_up jis0208) (looked_up jis0212); start = euc_jp_idle }
coding (of.Iso2022Jp jis0208 katakana) = record { State = Iso2022Jp; table = iso_2022_jp (looked_up jis0208); start = iso_2022_jp_start }
coding of.Replacement = record { State = ReplacementState; table = replacement; start = Unread }
coding of.Utf16Be = record { State = Utf16; table = utf16 BigEndian; start = utf16_start }
coding of.Utf16Le = record { State = Utf16; table = utf16 LittleEndian; start = utf16_start }
coding of.XUserDefined = record { State = OneByteState; table = x_user_defined; start = one_byte_idle }

-- the items of a decoder's run from its first state, and its state after some bytes
abbrev pub coding_run : Coding → List ℕ → List Ended
coding_run c bytes = run c.table c.start bytes

abbrev pub coding_state : (c : Coding) → List ℕ → c.State
coding_state c bytes = (feed c.table c.start bytes).state
