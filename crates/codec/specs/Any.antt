-- One decoder for all encodings: each encoding's own decoder, as one of all, after the look for a byte order mark if there is one.
use Rattle.std.specs.Prelude.{List, ℕ, drop, Option, Some, None, option_map}
use Rattle.std.specs.Option.{unwrap_or}
use Rattle.enc_names.specs.declared.encoding.Encoding.{Encoding}
use Rattle.enc_names.specs.declared.{encoding.Encoding.TheVariants.Utf16Be, encoding.Encoding.TheVariants.Utf16Le, setting.Setting.Setting}
use Rattle.index_loader.specs.declared.family.Family.{Family}
use Rattle.index_loader.specs.declared.family.Family.TheVariants as of
use Rattle.index_loader.specs.{Files.Files, Files.indexes_of, Index.Loaded}
use Rattle.decoder_core.specs.{declared.item.Ended.Ended, Queue.Table}
use Rattle.multibyte_decoders.specs.PairRules.{over, source}
use Rattle.iso2022jp.specs.declared.output.OutputState.{OutputState, TheVariants.Ascii}
use Rattle.codec.specs.declared.{prefix.Prefix.Prefix, prefix.Prefix.TheVariants.Nothing, state.AnyState.AnyState}
use Rattle.codec.specs.declared.state.AnyState.TheVariants as state
use Rattle.codec.specs.declared.own.OwnDecoder.{OwnDecoder}
use Rattle.codec.specs.declared.own.OwnDecoder.TheVariants as by
use Rattle.codec.specs.{Coding.Coding, Coding.coding, Coding.coding_run, Coding.coding_state, Lifted.lifted, Mark.Mark, Mark.if_sniffed, Sniffed.sniffed}

-- the output state of ISO-2022-JP, which is ASCII in every other encoding
abbrev pub output_of : AnyState → OutputState
output_of (state.Iso2022Jp s) = s.output
output_of s = Ascii

-- a decoder as the program has it: its first state among all states, and what it does in its own states (in all others it is finished).
-- It has its run, the state after some bytes, and the decoder itself, if its index files are loaded
pub record Standing : Type 0 where
  pub start : AnyState
  pub turns : Table AnyState
  pub run : List ℕ → List Ended
  pub state : List ℕ → AnyState
  pub decoder : Option OwnDecoder

-- `put` makes one of all states of a decoder's own, which `part` finds again
abbrev pub stands : (c : Coding) → (c.State → AnyState) → (AnyState → Option c.State) → Option OwnDecoder → Standing
stands c put part decoder = record {
  start = put c.start;
  turns = lifted put part c.table;
  run = coding_run c;
  state = λ bytes. put (coding_state c bytes);
  decoder = decoder;
}

-- what is made of two indexes, if both are loaded
abbrev pub of_both : {A : Type 0} → (Loaded → Loaded → A) → Option Loaded → Option Loaded → Option A
of_both make (Some first) (Some second) = Some (make first second)
of_both make first second = None

-- the states of UTF-8 and UTF-16 are the same in every decoder, so they are no decoder's own
abbrev pub standing : Family (Option Loaded) → Standing
standing of.Utf8 = stands (coding of.Utf8) state.Utf8 (λ s. None) (Some (by.Utf8 (record {})))
standing (of.SingleByte index) = stands (coding (of.SingleByte index)) state.SingleByte (elim [ state.SingleByte s ↦ Some s | _ ↦ None ])
    (option_map by.SingleByte index)
standing (of.Gb18030 index ranges) = stands (coding (of.Gb18030 index ranges)) state.Gb18030 (elim [ state.Gb18030 s ↦ Some s | _ ↦ None ])
    (of_both (λ i r. by.Gb18030 (record { index = i; ranges = r })) index ranges)
standing (of.Pair encoding index) = stands (coding (of.Pair encoding index)) state.Pair (elim [ state.Pair s ↦ Some s | _ ↦ None ])
    (option_map (λ i. by.Pair (over encoding i)) index)
standing (of.EucJp jis0208 jis0212) = stands (coding (of.EucJp jis0208 jis0212)) state.EucJp (elim [ state.EucJp s ↦ Some s | _ ↦ None ])
    (of_both (λ a b. by.EucJp (record { jis0208 = a; jis0212 = b })) jis0208 jis0212)
standing (of.Iso2022Jp jis0208 katakana) = stands (coding (of.Iso2022Jp jis0208 katakana)) state.Iso2022Jp
    (elim [ state.Iso2022Jp s ↦ Some s | _ ↦ None ]) (of_both (λ a b. by.Iso2022Jp a) jis0208 katakana)
standing of.Replacement = stands (coding of.Replacement) state.Replacement (elim [ state.Replacement s ↦ Some s | _ ↦ None ])
    (Some (by.Replacement (record {})))
standing of.Utf16Be = stands (coding of.Utf16Be) state.Utf16Be (λ s. None) (Some by.Utf16Be)
standing of.Utf16Le = stands (coding of.Utf16Le) state.Utf16Le (λ s. None) (Some by.Utf16Le)
standing of.XUserDefined = stands (coding of.XUserDefined) state.XUserDefined (elim [ state.XUserDefined s ↦ Some s | _ ↦ None ])
    (Some (by.XUserDefined (record {})))

-- the decoder of an encoding over the loaded index files
abbrev pub own_in : Files → Encoding → Option OwnDecoder
own_in files encoding = (standing (indexes_of files encoding)).decoder

-- the one decoder: that of the declared encoding, and the setting by which it reads
pub record AnyDecoding : Type 0 where
  pub own : OwnDecoder
  pub setting : Setting

abbrev pub under : Setting → OwnDecoder → AnyDecoding
under setting own = record { own = own; setting = setting }

-- the one decoder under a setting, over the loaded index files
abbrev pub decoder_in : Files → Setting → Option AnyDecoding
decoder_in files setting = option_map (under setting) (own_in files setting.given)

-- a decoder's family with the indexes that it borrows, which aren't all that the encoding needs: the katakana are the encoder's
abbrev pub source_of : OwnDecoder → Family (Option Loaded)
source_of (by.Utf8 d) = of.Utf8
source_of (by.Gb18030 d) = of.Gb18030 (Some d.index) (Some d.ranges)
source_of (by.Pair d) = of.Pair (source d).encoding (Some (source d).index)
source_of (by.EucJp d) = of.EucJp (Some d.jis0208) (Some d.jis0212)
source_of (by.Iso2022Jp d) = of.Iso2022Jp (Some d) None
source_of (by.SingleByte d) = of.SingleByte (Some d)
source_of (by.XUserDefined d) = of.XUserDefined
source_of (by.Replacement d) = of.Replacement
source_of by.Utf16Be = of.Utf16Be
source_of by.Utf16Le = of.Utf16Le

abbrev pub standing_of : OwnDecoder → Standing
standing_of d = standing (source_of d)

-- what each decoder does in the states of its encoding alone
abbrev pub given : OwnDecoder → Table AnyState
given d = (standing_of d).turns

-- the first state of the declared encoding, if no byte order mark precedes it
abbrev pub given_start : OwnDecoder → AnyState
given_start d = (standing_of d).start

-- the table of each decoder
abbrev pub any : AnyDecoding → Table AnyState
any d = sniffed (given_start d.own) (given d.own)

-- the state before the first byte under a setting: that of the look for a mark, if one is looked for. `own` is the first state of the
-- declared encoding
abbrev pub start_under : Setting → AnyState → AnyState
start_under setting own = unwrap_or (option_map state.Sniffing (if_sniffed setting.bom (Some Nothing))) own

abbrev pub any_start : AnyDecoding → AnyState
any_start d = start_under d.setting (given_start d.own)

-- the decoder of a byte order mark's encoding, which needs no index file
abbrev pub mark_family : Encoding → Family (Option Loaded)
mark_family Utf16Be = of.Utf16Be
mark_family Utf16Le = of.Utf16Le
mark_family encoding = of.Utf8

abbrev pub marked : Mark → Standing
marked mark = standing (mark_family mark.encoding)

-- the effective decoder: that of the byte order mark, if there is one, or otherwise that of the declared encoding
abbrev pub in_force_of : AnyDecoding → Option Mark → Standing
in_force_of d mark = unwrap_or (option_map marked mark) (standing_of d.own)

-- its run over the bytes after the mark
abbrev pub run_behind : AnyDecoding → List ℕ → Option Mark → List Ended
run_behind d bytes mark = (in_force_of d mark).run (drop (unwrap_or (option_map (λ (m : Mark). m.len) mark) 0) bytes)

-- its state after them, unless the bytes are a proper prefix of a mark
abbrev pub stands_behind : AnyDecoding → List ℕ → Option Prefix → Option Mark → AnyState
stands_behind d bytes prefix mark =
    unwrap_or (option_map state.Sniffing prefix) ((in_force_of d mark).state (drop (unwrap_or (option_map (λ (m : Mark). m.len) mark) 0) bytes))
