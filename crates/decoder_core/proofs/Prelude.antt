-- What many of this crate's proofs name.
pub use Rattle.decoder_core.specs.Bulk.{IsBulk, IsOwnText, plain_from, plain_to, run_width, width_of}
pub use Rattle.decoder_core.specs.Collected.{Collected, collect, collect_item, collect_one, further_on, last_end}
pub use Rattle.decoder_core.specs.{Counts.Counts, Counts.cost, Utf8.utf8, Utf8.utf8_begins, Utf8.utf8_start}
pub use Rattle.decoder_core.specs.EncoderOutput.{PutAll, PutOne, fault_at}
pub use Rattle.decoder_core.specs.EncoderSteps.{Put, PutsItself, encoded_from, onward, taken}
pub use Rattle.decoder_core.specs.{Forms.holds, Holding.falls_of, Placed.places, Seen.seen_of, Steps.bytes_of, Utf16Laws.utf16_holding, Utf8Laws.utf8_falls}
pub use Rattle.decoder_core.specs.Fronts.{IsFront, IsFrontPut, TakesByte, TakesPair}
pub use Rattle.decoder_core.specs.Shown.{Shown, TookPrefix, ended_at, shown_at, shown_from, shown_items}
pub use Rattle.decoder_core.specs.Utf16.{pair_code_point, unit_of, units_of, utf16, utf16_single, utf16_start}
pub use Rattle.decoder_core.specs.declared.{bulk.Bulk.Bulk, bulk.Stride.Stride, handler.Answer.Answer, item.Ended.Ended}
pub use Rattle.decoder_core.specs.declared.handler.Answer.TheVariants.{Finished, Gives, Nothing}
pub use Rattle.decoder_core.specs.declared.item.Item.{Item, TheVariants.One}
pub use Rattle.decoder_core.specs.declared.utf16.ByteOrder.TheVariants.{BigEndian, LittleEndian}
pub use Rattle.std.proofs.Math.{Seq.take-add, Seq.take-append_seam, Utf8.low_scalar, Utf8.scalar, Utf8.scalar_cases, Utf8.scalars}
pub use Rattle.std.{proofs.StrCases.chars_of_empty, specs.Char.IsScalar, specs.Char.encode_utf8, specs.Char.len_utf8}
pub use Rattle.std.proofs.lemmas.{Grind.fold-append, Int.ints, Result.err_from_is_err_and, List.take-append-le, List.take-take, List.take_more_set}
pub use Rattle.std.proofs.lemmas.Bool.{and_parts, cases_lt, le-leb, le-ltb, leb-true, lt-leb, lt-ltb, ltb-true, Decides.nat_tests}
pub use Rattle.std.proofs.lemmas.List.{drop_more, length-drop, length-take, length-take-le, map-append, nil_from_length, take-append-drop}
pub use Rattle.std.proofs.lemmas.Str.{IsCharBoundary-from_drop, IsUtf8-append, IsUtf8-encode, IsUtf8-from_ascii, IsUtf8-nil}
pub use Rattle.std.proofs.lemmas.Str.{IsUtf8-past_char, chars-IsAscii, chars-append, chars-encodes, chars-nil, chars_past_char, encode_ascii, encodes-chars}
pub use Rattle.std.proofs.lemmas.Str.{len_utf8_ascii, len_utf8_bounds, length-encode, scalars-chars, utf8_valid_len_le}
pub use Rattle.std.specs.Str.{IsAscii, IsCharBoundary, IsUtf8, chars, encode_utf8_all, Iter.chars_rest}
pub use Rattle.decoder_core.specs.Queue.{Falls, Fed, Runs, fed_after, finished, front, further, nothing, queue_after, reported, turn_at}
unfoldable pub use Rattle.decoder_core.specs.Queue.{feed, feed_for, run, turns}
unfoldable pub use Rattle.std.proofs.Math.Utf8.{encode}
