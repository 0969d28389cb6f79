-- What many proofs here name.
pub use Rattle.codec.specs.{Any.AnyDecoding, Any.any, Any.output_of, declared.state.AnyState.AnyState}
pub use Rattle.decoder_core.specs.{Bulk.run_width, Bulk.width_of, Shown.Shown, Shown.shown_from, Text.item_code_points}
pub use Rattle.decoder_core.specs.declared.bulk.Stride.{Stride, TheVariants.Bytes, TheVariants.Pairs, TheVariants.Utf16, TheVariants.Utf8}
pub use Rattle.decoder_core.specs.declared.item.Item.TheVariants.{Error, One, Two}
pub use Rattle.iso2022jp.specs.declared.output.OutputState.{OutputState}
pub use Rattle.lane_ascii.specs.Marks.{cr, ends_cr, is_mark, lf, marks, one_if}
pub use Rattle.lane_utf.specs.Widths.{pair_width, total_width, utf16_width, utf8_width}
pub use Rattle.state_memo.specs.{Alike.AreAlike, Facts.IsBounded, Facts.IsDone, Facts.IsSumOf, Lines.begins_lf, Memo.IsSlot, Memo.Known, Memo.Memo}
pub use Rattle.state_memo.specs.{Memo.same_state, Memo.without, Outcome.contents_of, Sums.Fits, Sums.joined, Sums.no_sum, declared.ended.Ended.Ended}
pub use Rattle.state_memo.specs.Gathering.{Gathered, no_item, plain_items, plain_items_from, with_ended, with_item, with_more, with_shown}
pub use Rattle.state_memo.specs.Items.{all_scalars, errors_in, item_of, kept_item, scalars_before}
pub use Rattle.state_memo.specs.Runs.{error_of, item_of_kind, items_of_run, items_of_runs, items_under_way, items_until, scalars_of}
pub use Rattle.state_memo.specs.declared.{kind.ItemKind.ItemKind, kind.ItemKind.TheVariants.AsciiOne, outcome.Outcome.Outcome, run.Run.Run, sum.Sum.Sum}
pub use Rattle.std.proofs.{Math.Facts.to_z-of_z, StrCases.chars_of_empty}
pub use Rattle.std.proofs.lemmas.Bool.{cases_lt, cond-false, cond-true, cond_both, le-ltb}
pub use Rattle.std.proofs.lemmas.{Bool.Decides.nat_tests, Int.ints, List.get_or-drop, List.length-drop, List.map-append, List.take_all, Result.IfOk-weaker}
pub use Rattle.std.proofs.lemmas.{Str.chars-append, Str.chars-nil, Str.encodes-chars, Str.len_utf8_bounds, Str.length-encode}
pub use Rattle.std.proofs.lemmas.Option.{slice_get-get_or, slice_get_past, slice_get_read}
pub use Rattle.std.specs.Char.{encode_utf8, len_utf8}
pub use Rattle.std.specs.{List.prefix_len, List.remove, Prelude.vec_capacity, Prelude.vec_len, Str.IsUtf8, Str.chars, Str.continuation_len, Str.encode_utf8_all}
pub use lib.{Lanes.mask_l, Signed.le_z}
