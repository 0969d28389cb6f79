-- Words of std, of the crates below and of specs/, which many proofs here name.
pub use Rattle.std.proofs.lemmas.List.{append_cancel_left, drop-append-le, drop-drop, drop_all, drop_at, length-drop, length-take, length-take-le}
pub use Rattle.std.proofs.lemmas.List.{nil_from_length, take-append-drop, take-append-le, take_all, take_at, take_min, take_rest}
pub use Rattle.std.proofs.lemmas.Str.{IsUtf8-string_bytes, chars-append, chars-nil, encode_same, encodes-append, encodes-chars, length-le-encodes}
pub use Rattle.std.proofs.lemmas.{Bool.cases_lt, Bool.le-leb, Bool.leb-true, Bool.lt-leb, Bool.Decides.Decides-eqb, Bool.Decides.nat_tests, Grind.common_steps}
pub use Rattle.std.proofs.lemmas.{Grind.flat_map-append, List.Edits.length-remove, Option.IfSome_then, Option.slice_get_past, Option.slice_get_read}
pub use Rattle.std.proofs.lemmas.{Option.slice_get_within, Result.err_from_is_err_and, Slice.Eq.bytes_eq-Decides}
pub use Rattle.std.proofs.Common.{Bool, List, None, Option, Some, Vec, [], add-one, ap, arith, drop, false, if◌then◌else◌, length, length-append, map, min}
pub use Rattle.std.proofs.Common.{refl, rules, slice_get, string_bytes, subst, suc, sym, take, true, ℕ, ◌*◌, ◌++◌, ◌+◌, ◌-◌, ◌<◌, ◌^◌, ◌∙◌, ◌∷◌, ◌≡◌, ◌≤◌}
pub use Rattle.std.proofs.Common.{append-nil, inl, inr, append_assoc, zero, option_map, MatchOption, nat_le, Err, vec_len, vec_capacity, option_copied}
pub use Rattle.std.proofs.Math.Seq.{drop-append-add, drop-append_seam, take-add, take-append-add, take-append_seam}
pub use Rattle.std.specs.Prelude.{Decides, not, pos, ℤ, ◌&&◌, ◌-ℤ◌, ◌==◌}
pub use Rattle.std.specs.{List.insert, List.remove, Option.IfNone, Option.IfSome, Option.is_some, Str.IsUtf8, Str.chars, Str.encode_utf8_all}
pub use Rattle.std.specs.declared.alloc.Global.{Global}
pub use Rattle.enc_names.specs.{declared.place.Place.Place, declared.setting.Setting.Setting}
pub use Rattle.index_loader.specs.Files.{Files}
unfoldable pub use Rattle.index_loader.specs.Files.{has_files}
pub use Rattle.state_memo.specs.Decoding.{AnyDecoding, AnyState, Ended as EndedItem, Item, One, Placed, Shown, any, any_start, code_points, decoder_in}
pub use Rattle.state_memo.specs.Decoding.{ended_at, error_place, error_places, further, item_code_points, mark_length, mark_of, marks, one_if, output_behind}
pub use Rattle.state_memo.specs.Decoding.{output_of, places, shown_from, shown_items, state_behind, total_width, utf16_width, utf8_width}
pub use Rattle.state_memo.specs.Memo.{Memo, entered, installed, recalled, same_state, without, spared}
pub use Rattle.state_memo.specs.Outcome.{Contents, contents_of, items_of_ended, items_of_shown, text_of_ended, text_of_shown}
pub use Rattle.state_memo.specs.{Items.errors_in, Items.is_an_error, Items.kept_item, Items.scalar_count, Runs.item_of_kind, Runs.items_of_run}
pub use Rattle.state_memo.specs.{Runs.items_of_runs, Runs.items_until, Sums.Fits, Sums.joined, Sums.measure, Sums.no_sum, declared.ended.Ended.Ended}
pub use Rattle.state_memo.specs.{declared.outcome.Outcome.Outcome, declared.run.Run.Run, declared.sum.Sum.Sum}
unfoldable pub use Rattle.state_memo.specs.{Decoding.decode, Decoding.feed, Decoding.run, Outcome.ending_of, Outcome.outcome_of, Sums.sum_of}
pub use Rattle.sum_tree.specs.{Reached.IsFirstAbove, Refilled.with_run}
pub use Rattle.lemmas.proofs.Lists.{drop-next, take-next, length-snoc, element, take-take, get-front, fewer, at-behind}
pub use Rattle.piece_rope.specs.Ahead.{Awaits, Begins, GoesOn, IsUnlike, Strays, left_of, chunks, together}
pub use Rattle.piece_rope.specs.Chain.{AreRenewed, AreRight, Chain, IsOwn, IsRenewed, bytes_of, renew, renewed, state_after}
pub use Rattle.piece_rope.specs.Document.{Document, decoded, document, errors_of, text_of}
pub use Rattle.piece_rope.specs.Edits.{KeptAnswers, document_limit, is_kept, kept_fault, named, replaced, settled, spliced, spliced_document}
pub use Rattle.piece_rope.specs.Entry.{Entry, entry_sum, here, here_of, items_of, outcome_or, sums_of, texts_of}
pub use Rattle.piece_rope.specs.Errors.{all_errors, errors_at, errors_from, last_at, last_from, place_if, AreFirstOf, begin_behind}
pub use Rattle.piece_rope.specs.Log.{CanReturn, GoBack, GoesBack, IsHeld, IsSameLog, Logs, Returns, TakesBack, before_all, before_edit, earlier_of, room_of}
pub use Rattle.piece_rope.specs.Log.{tail_before}
pub use Rattle.piece_rope.specs.Made.{AreEnded, AreMade, EndWithin, IsMade, IsWhole, body_of, count_body, ended_by, ends_at, tail_of}
pub use Rattle.piece_rope.specs.Parts.{IsPrepared, edited_parts, later_parts, made_pieces, parts_of, text_in}
pub use Rattle.piece_rope.specs.Sizes.{AreCounted, AreShort, AreSized, CanJoin, HasSizes, longest, most_pieces, shortest}
pub use Rattle.piece_rope.specs.{Chunks.written, Compare.IsMatch, Compare.IsSpan, Compare.rest_of, Compare.wanted, Edit.IsRope, Edit.Metered, Edit.edited}
pub use Rattle.piece_rope.specs.{Edit.exchanged, Kept.IsKept, Kept.Resyncs, Laws.AllLaws, Laws.Laws, Laws.ItemLaws, Outputs.HasOutputs, Outputs.HaveOutputs}
pub use Rattle.piece_rope.specs.{Outputs.output_at, Resync.LastDiffers, Resync.Passed, Room.piece_room, Splice.IsReady, Window.IsPlace, Window.IsRoomy}
pub use Rattle.piece_rope.specs.{Window.Spans, Window.bytes_before, declared.edit.PreparedEdit.PreparedEdit, declared.fault.DocFault.DocFault}
pub use Rattle.piece_rope.specs.{declared.log.LoggedEdit.LoggedEdit, declared.wanted.Wanted.Wanted, declared.window.Window.Window}
unfoldable pub use Rattle.piece_rope.specs.{Document.decoded_errors, Document.decoded_text, Edits.range_fault, Edits.splice_fault}
