-- Words of texts and of pieces that many proofs here name, passed on from one place. Declares nothing.
pub use Rattle.std.proofs.Common.{arith, ℕ, sym, subst, ap, ◌∙◌, Result, refl, ◌+◌, ◌≡◌, ◌≤◌, length, Some, None, ◌-◌, ◌<◌, List, drop, get_or, min, false, Ok}
pub use Rattle.std.proofs.Common.{Err, Bor, ◌⊎◌, inl, inr, [], ◌∷◌, Option, true, ◌++◌, append-nil}
pub use Rattle.std.specs.Str.{chars, IsUtf8, IsCharBoundary}
pub use Rattle.std.specs.Option.{option_map, unwrap_or, option_to_list, IfSome, ok_or, option_eq}
pub use Rattle.std.{specs.List.slice_get, specs.List.flat_map, proofs.lemmas.Bool.and_parts, proofs.lemmas.Bool.Decides.nat_tests}
pub use Rattle.std.proofs.lemmas.List.{length-take-le, take-take, drop-take, drop_more, nil_from_length, take_at, drop_at, length-map, map-append, length-take}
pub use Rattle.std.proofs.lemmas.List.{drop-drop, take_all}
pub use Rattle.std.proofs.lemmas.Option.{slice_get_past, slice_get_within}
pub use Rattle.std.proofs.lemmas.List.Sums.{count_by-le-length, sum_by-cons, sum_by-append}
pub use Rattle.std.proofs.lemmas.Str.{encode_ascii, chars-append, chars_past_char, IsUtf8-take, IsUtf8-drop, IsCharBoundary-before_ascii}
pub use Rattle.std.proofs.lemmas.Str.{IsCharBoundary-after_ascii, encodes-chars, length-encode, chars-nil}
pub use Rattle.std.proofs.{lemmas.Result.err_from_is_err_and, Math.Utf8.encodes, lemmas.Int.ints}
pub use Rattle.lemmas.proofs.Bools.{by_test}
pub use Rattle.piece_rope.specs.Chained.{ChainLaws, IsChained, last_to}
pub use Rattle.piece_rope.specs.Outcomes.{IsScalarCut, Ended, Outcome, Sum, total_of, all_scalars, item_of, begins_lf, joined, is_an_error, errors_in, no_sum}
pub use Rattle.piece_rope.specs.Outcomes.{scalars_before, IsSumOf}
pub use Rattle.piece_rope.specs.Runs.{ItemKind, AsciiError, RomanError, KatakanaError, Jis0208Error, Run, item_of_kind, items_of_run, items_of_runs}
pub use Rattle.piece_rope.specs.Runs.{items_until}
pub use Rattle.piece_rope.specs.Decode.{Ended as Turned, Item, One, Two, Error, Placed, places, item_code_points, code_points, Ascii, run_in, in_force}
pub use Rattle.piece_rope.specs.Decode.{mark_length, error_place, error_places, OutputState}
pub use Rattle.piece_rope.specs.Document.{text_of, Document, decoded, errors_of}
pub use Rattle.piece_rope.specs.Made.{IsMade, IsEnded, AreEnded, AreMade, ends_at, body_of, tail_of, count_body, EndWithin}
pub use Rattle.piece_rope.specs.Outputs.{HasOutputs, HaveOutputs, output_at}
pub use Rattle.piece_rope.specs.Search.{Scalar, measure, IsFound, total, Axis, Byte, Utf16 as by_utf16, Utf8 as by_utf8, Mark as by_mark}
pub use Rattle.lane_ascii.specs.Marks.{is_mark, marks, ends_cr, IsNthMark, one_if, cr, lf}
pub use Rattle.position_map.proofs.Cases.{map_some, by_le, same_some, none_some, map_none, same_cons, same_ok, none_past, ok_some}
pub use Rattle.position_map.specs.{Along.IsAlongFront, Cuts.IsRestBehind, ItemCuts.cut_behind, ItemCuts.cut_of, LineEnds.IsLastEnd, LineEnds.IsLastLine}
pub use Rattle.position_map.specs.{LineEnds.ending_of, Lines.LineSpan, Lines.lines_from, Located.IsLocated, Located.reach, Located.axis_of, Located.sum_in}
pub use Rattle.position_map.specs.{Located.IsOfText, Places.place_of, Places.scalars_until, Placing.bom_of, Placing.HasItem, Placing.IsPlaced, Whole.Pieced}
pub use Rattle.position_map.specs.{Whole.AreAllPieces, Whole.AreAtLeast, Whole.AreAtMost, Whole.pieces_most, Widths.width, Widths.width_of}
pub use Rattle.position_map.specs.Diagnostics.{all_errors, error_if, errors_from, diagnostic_at}
pub use Rattle.position_map.specs.ErrorScalars.{scalar_of, error_scalars}
pub use Rattle.position_map.specs.Found.{IsFoundBy, IsFoundOutcome, errors_in_sum, sum_in_outcome}
pub use Rattle.position_map.specs.Fronts.{IsTextFront, IsFrontOf, IsCutAt, IsOnLine}
pub use Rattle.position_map.specs.Marked.{IsMarkCut, IsLineStart, start_of, IsLineEnd, IsMark, end_of, IsMarkAt}
pub use Rattle.position_map.specs.NextLines.{IsNextLine, IsAhead, LinesFrom}
pub use Rattle.position_map.specs.Plan.{item_width, cut, is_behind, position_cause, splice_with, encoder_cause, IsPlanned, with_return, same_output}
pub use Rattle.position_map.specs.Plan.{begins_with_escape, inserted_of, bytes_in, Inserted, Encoded, Given}
pub use Rattle.position_map.specs.Points.{IsTextEnd, IsBehind, IsPoint}
pub use Rattle.position_map.specs.Positions.{along, between, line_at, position, offset_at, character_at, offset_on}
pub use Rattle.position_map.specs.declared.{change_fault.ChangeFault.ChangeFault, cuts.TextCut.TextCut, diagnostic.ErrorAt.ErrorAt, fault.PosFault.PosFault}
pub use Rattle.position_map.specs.declared.{fault.PosFault.TheVariants.OutOfRange, fault.PosFault.TheVariants.SplitsCharacter, marks.LineMark.LineMark}
pub use Rattle.position_map.specs.declared.{places.Cut.Cut, plan.Plan.Plan, position.Position.Position, position.Range.Range, positions.OnLine.OnLine}
pub use Rattle.position_map.specs.declared.unit.{Point.Point, Unit.Unit as TextUnit, Unit.TheVariants.Utf8, Unit.TheVariants.Utf16, Unit.TheVariants.Utf32}
unfoldable pub use Rattle.position_map.specs.{Lines.lines_of, Positions.position_of, Positions.offset_of, Positions.converted, Plan.planned, Plan.replacing}
unfoldable pub use Rattle.position_map.specs.{Places.scalar_of_byte, Diagnostics.errors_before_line, Diagnostics.diagnostics_of}
unfoldable pub use Rattle.std.proofs.Math.Utf8.{encode}
pub use Rattle.index_loader.specs.Files.{Files, has_files}
pub use Rattle.lane_utf.specs.Selected.{selected, moved}
pub use native.Mathlib.{Nat.zero-add, Nat.add_assoc, Numerals.unary_clauses}
pub use Rattle.enc_names.specs.declared.place.Place.{Place}
unfoldable pub use Rattle.piece_rope.specs.Decode.{decode, run, turns, output_behind, feed, feed_for}
unfoldable pub use Rattle.piece_rope.specs.Document.{decoded_text, decoded_errors}
