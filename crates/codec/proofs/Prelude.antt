-- The words that most proofs here cite, passed on from one place.
pub use Rattle.codec.specs.Any.{AnyDecoding, any, any_start, decoder_in, output_of, standing, of_both, under, run_behind, Standing, in_force_of, own_in}
pub use Rattle.codec.specs.Any.{standing_of, stands_behind, given_start}
pub use Rattle.codec.specs.{AnyLaws.lawful_alone, AnyLaws.any_counts, Behind.state_in, Coding.coding, Coding.coding_run, Coding.looked_up}
pub use Rattle.codec.specs.{Decode.run_in, Mark.mark_length, Mark.in_force, Mark.Mark, Mark.mark_of, Mark.if_sniffed, Mark.mark_under}
pub use Rattle.codec.specs.{Sniffing.prefix_bytes, Sniffing.prefix_of, Sniffing.prefix_under, Sniffing.sniffing, declared.own.OwnDecoder.OwnDecoder}
pub use Rattle.codec.specs.declared.prefix.Prefix.{Prefix, TheVariants.Nothing, TheVariants.Ef, TheVariants.EfBb, TheVariants.Fe, TheVariants.Ff}
pub use Rattle.codec.specs.declared.state.AnyState.{AnyState}
pub use Rattle.codec.specs.declared.state.AnyState.TheVariants.{Iso2022Jp as in_iso_2022_jp, Sniffing as in_sniffing, Utf8 as in_utf8, Utf16Be as in_utf16_be}
pub use Rattle.codec.specs.declared.state.AnyState.TheVariants.{Utf16Le as in_utf16_le, Sniffing}
unfoldable pub use Rattle.codec.specs.{Behind.state_behind, Decode.decode}
pub use Rattle.decoder_core.specs.{ByCases.by_test, ByCases.by_if, Counts.Counts, Counts.cost, Lift.IsLifted, Lift.lift_fed, Placed.places}
pub use Rattle.decoder_core.specs.Queue.{Fed, Table, turn_at, queue_after, reported, further, fed_after, front}
pub use Rattle.decoder_core.specs.{Shown.shown_at, Shown.shown_from, Text.item_code_points, Text.code_points, Text.error_place, Text.error_places}
pub use Rattle.decoder_core.specs.declared.{handler.Answer.Answer, item.Ended.Ended}
unfoldable pub use Rattle.decoder_core.specs.Queue.{feed, feed_for, run, turns}
pub use Rattle.enc_names.specs.declared.bom.Bom.{Bom, TheVariants.Sniff, TheVariants.Keep}
pub use Rattle.enc_names.specs.declared.encoding.Encoding.TheVariants.{Utf8, Utf16Be, Utf16Le}
pub use Rattle.enc_names.specs.declared.setting.Setting.{Setting}
pub use Rattle.index_loader.specs.{Index.Loaded, Index.code_point_of, declared.family.Family.Family}
pub use Rattle.std.specs.List.{starts_with, list_all}
