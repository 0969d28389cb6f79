-- The definitions of decoding that crates above name in their own contracts, re-exported.
pub use Rattle.decoder_core.specs.declared.item.Item.{Item, TheVariants.One, TheVariants.Two, TheVariants.Error}
pub use Rattle.decoder_core.specs.declared.{item.Ended.Ended, placed.Placed.Placed}
pub use Rattle.decoder_core.specs.{Placed.places, Queue.Table, Queue.Fed, Queue.further, Shown.Shown, Shown.shown_from, Shown.shown_items, Shown.ended_at}
pub use Rattle.decoder_core.specs.Text.{item_code_points, code_points, error_place, error_places}
unfoldable pub use Rattle.decoder_core.specs.Queue.{feed, run, turns}
pub use Rattle.codec.specs.{declared.state.AnyState.AnyState, Any.AnyDecoding, Any.any, Any.any_start, Any.decoder_in, Any.output_of}
pub use Rattle.codec.specs.{Decode.Decoded, Decode.fatal_of, Decode.run_in, Mark.mark_of, Mark.in_force, Mark.mark_length, Texts.replaced}
unfoldable pub use Rattle.codec.specs.{Behind.state_behind, Decode.decode, Output.output_behind}
pub use Rattle.iso2022jp.specs.declared.output.OutputState.{OutputState, TheVariants.Ascii, TheVariants.Roman, TheVariants.Katakana, TheVariants.Jis0208}
pub use Rattle.lane_ascii.specs.Marks.{marks, one_if}
pub use Rattle.lane_utf.specs.Widths.{utf8_width, utf16_width, total_width}
