-- Proofs that a trait asks for; there is nothing to believe here. The turns of the one decoder end, and its steps give few items, as those
-- of the encodings' own decoders.
use Rattle.std.proofs.Common.{refl, lit≤, Option}
use Rattle.index_loader.specs.declared.family.Family.{Family}
use Rattle.index_loader.specs.declared.family.Family.TheVariants as of
use Rattle.index_loader.specs.Index.{Loaded}
use Rattle.decoder_core.specs.declared.utf16.ByteOrder.TheVariants.{BigEndian, LittleEndian}
use Rattle.decoder_core.specs.{Counts.Counts, OneByteLaws.single_byte_holding, OneByteLaws.x_user_defined_holding}
use Rattle.decoder_core.specs.{Queue.Falls, ReplacementLaws.replacement_falls, ReplacementLaws.replacement_counts}
use Rattle.decoder_core.specs.{Utf16Laws.utf16_holding, Utf8Laws.utf8_falls, Utf8Laws.utf8_counts}
use Rattle.multibyte_decoders.specs.{Holdings.pair_holding, Holdings.euc_jp_holding, Holdings.gb18030_holding, PairRules.rule_of}
use Rattle.iso2022jp.specs.Iso2022JpLaws.{iso_2022_jp_holding}
use Rattle.codec.specs.declared.own.OwnDecoder.{OwnDecoder}
use Rattle.codec.specs.declared.own.OwnDecoder.TheVariants as by
use Rattle.codec.specs.declared.state.AnyState.TheVariants as state
use Rattle.codec.specs.{Any.AnyDecoding, Any.any, Any.given, Any.given_start, Any.source_of, Coding.coding, Coding.looked_up}
use Rattle.codec.specs.SniffedLaws.{IsLawful, Lawful, lawful_holding, lawful_lifted, lawful_finished, falls_sniffed, counts_sniffed}

-- why the turns of each family's decoder end, and how few items its steps give
pub lawful_alone : (family : Family (Option Loaded)) → IsLawful (coding family)
lawful_alone of.Utf8 = record { falls = utf8_falls; counts = utf8_counts; light = lit≤ tt; none = refl }
lawful_alone (of.SingleByte index) = lawful_holding _ (single_byte_holding (looked_up index)) refl
lawful_alone (of.Gb18030 index ranges) = lawful_holding _ (gb18030_holding (looked_up index) (looked_up ranges)) refl
lawful_alone (of.Pair encoding index) = lawful_holding _ (pair_holding (rule_of encoding) (looked_up index)) refl
lawful_alone (of.EucJp jis0208 jis0212) = lawful_holding _ (euc_jp_holding (looked_up jis0208) (looked_up jis0212)) refl
lawful_alone (of.Iso2022Jp jis0208 katakana) = lawful_holding _ (iso_2022_jp_holding (looked_up jis0208)) refl
lawful_alone of.Replacement = record { falls = replacement_falls; counts = replacement_counts; light = lit≤ tt; none = refl }
lawful_alone of.Utf16Be = lawful_holding _ (utf16_holding BigEndian) refl
lawful_alone of.Utf16Le = lawful_holding _ (utf16_holding LittleEndian) refl
lawful_alone of.XUserDefined = lawful_holding _ x_user_defined_holding refl

-- and so those of the decoders among all states
pub lawful : (d : OwnDecoder) → Lawful (given_start d) (given d)
lawful (by.Utf8 d) = lawful_finished _ (lit≤ tt) (lit≤ tt)
lawful (by.Gb18030 d) = lawful_lifted _ state.Gb18030 _ (λ s. refl) (λ s. refl) (lawful_alone (source_of (by.Gb18030 d)))
lawful (by.Pair d) = lawful_lifted _ state.Pair _ (λ s. refl) (λ s. refl) (lawful_alone (source_of (by.Pair d)))
lawful (by.EucJp d) = lawful_lifted _ state.EucJp _ (λ s. refl) (λ s. refl) (lawful_alone (source_of (by.EucJp d)))
lawful (by.Iso2022Jp d) = lawful_lifted _ state.Iso2022Jp _ (λ s. refl) (λ s. refl) (lawful_alone (source_of (by.Iso2022Jp d)))
lawful (by.SingleByte d) = lawful_lifted _ state.SingleByte _ (λ s. refl) (λ s. refl) (lawful_alone (source_of (by.SingleByte d)))
lawful (by.XUserDefined d) = lawful_lifted _ state.XUserDefined _ (λ s. refl) (λ s. refl) (lawful_alone (source_of (by.XUserDefined d)))
lawful (by.Replacement d) = lawful_lifted _ state.Replacement _ (λ s. refl) (λ s. refl) (lawful_alone (source_of (by.Replacement d)))
lawful by.Utf16Be = lawful_finished _ (lit≤ tt) (lit≤ tt)
lawful by.Utf16Le = lawful_finished _ (lit≤ tt) (lit≤ tt)

pub any_falls : (d : AnyDecoding) → Falls (any d)
any_falls d = falls_sniffed (given_start d.own) (given d.own) (lawful d.own)

pub any_counts : (d : AnyDecoding) → Counts (any d)
any_counts d = counts_sniffed (given_start d.own) (given d.own) (lawful d.own)
