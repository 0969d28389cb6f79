-- What many proofs here name, passed on from one place. Declares nothing.
pub use Rattle.std.proofs.Common.{◌≡◌, ℕ, ◌+◌, ◌-◌, ◌*◌, ◌^◌, ◌<◌, ◌≤◌, Bool, true, false, cond, ◌≢◌, List, [], ◌∷◌, map, length, take, drop, is_some, IfSome}
pub use Rattle.std.proofs.Common.{IfOk, if◌then◌else◌, OnErr, nat_le, Some, None, Ok, Err, string_bytes, filter, Option, Result, option_map, chars, bytes_eq}
pub use Rattle.std.proofs.Common.{string_cmp, nat_cmp, is_eq, Less, Global, BTreeMap, sym, refl, ap, ◌∙◌, subst, arith, length-drop, length-take-le, rules}
pub use Rattle.std.proofs.Common.{lt-ltb, eq-eqb, le-leb}
pub use Rattle.std.proofs.lemmas.{Bool.Decides.nat_tests, List.map-append, List.take_min, Slice.Eq.bytes_eq-Decides}
pub use Rattle.std.proofs.lemmas.Map.Views.{IfSome-lookup_from_All, All-values-insert_entry, All-values-set_value, All-map-remove_entry}
pub use Rattle.std.specs.Cmp.Lexicographic.{nat_list_cmp_total, slice_cmp}
pub use Rattle.std.specs.{FinMap.get, Map.lookup, Map.set_value, Map.keys_of, Ordering.eq_by_cmp}
pub use Rattle.enc_names.specs.{Labels.LabelTable, Labels.lookup_in, Settings.setting_of}
pub use Rattle.enc_names.specs.declared.{bom.Bom.Bom, encoding.Encoding.Encoding, place.Place.Place, setting.Setting.Setting}
pub use Rattle.index_loader.specs.Files.{Files, has_files}
pub use Rattle.encoders.specs.{Encode.encoded_in, Encode.bytes_only, Encode.encoded, declared.fault.EncodeFault.EncodeFault}
pub use Rattle.piece_rope.specs.Document.{Document, decoded, text_of, errors_of, document}
pub use Rattle.piece_rope.specs.Edits.{first_of, is_kept, kept_fault, spliced, spliced_document, text_fault, errors_fault, document_limit, replaced, named}
pub use Rattle.piece_rope.specs.Edits.{begun, settled}
pub use Rattle.piece_rope.specs.{Outputs.output_at, declared.fault.DocFault.DocFault}
unfoldable pub use Rattle.piece_rope.specs.Document.{decoded_text}
unfoldable pub use Rattle.piece_rope.specs.Edits.{splice_fault, open_fault, range_fault, number_fault, source_fault}
unfoldable pub use Rattle.position_map.specs.{Diagnostics.diagnostics_of, Diagnostics.errors_before_line, Plan.planned, Plan.replacing, Positions.converted}
pub use Rattle.position_map.specs.{Lines.LineSpan as Bounds, Lines.lines_of, Plan.put_in, Plan.IsPlanned, Positions.along, Whole.pieces_most}
pub use Rattle.position_map.specs.declared.{change_fault.ChangeFault.ChangeFault, fault.PosFault.PosFault, plan.Plan.Plan, position.Range.Range}
pub use Rattle.position_map.specs.declared.unit.Unit.{Unit as TextUnit, TheVariants.Utf8, TheVariants.Utf16, TheVariants.Utf32}
pub use Rattle.position_map.specs.Plan.{bytes_in, Inserted, Encoded, Given}
pub use Rattle.desk.specs.Accepted.{is_accepted, reports_change, OnlyChangesChange, RefusalsChangeNothing, MemoryIsNeverWanted}
pub use Rattle.desk.specs.Apart.{Exchange, Follows, NoneWanting, place_at, asks_of, replies_of, DocumentsAreApart}
pub use Rattle.desk.specs.Change.{unless_kept, made, made_unless, carried_out, changed, alone, change_leaves, change_reply, change_effect, plan_fault}
pub use Rattle.desk.specs.Change.{change_fault, substituted}
pub use Rattle.desk.specs.Changes.{then_rest, one_more, none_made, changed_all, changed_from_none, changes_leave, changes_reply, changes_effect, TextChange}
pub use Rattle.desk.specs.Changes.{change_of}
pub use Rattle.desk.specs.{Close.closed, Commands.Ask, Commands.Asked, Commands.Question, Commands.asked_of, Commands.question_of, Commands.answer}
pub use Rattle.desk.specs.Desk.{Office, Outcome, Answers, IsOutcome, effect, has_place, outcome, effect_of, Adopts, moved, answer_of}
pub use Rattle.desk.specs.Diagnostics.{diagnostics_page, diagnostics_reply, first_error}
pub use Rattle.desk.specs.Documents.{Entry, Names, Gives, reply_of, entry, document_of, fault_of, max_number, unless, edit_reply, unless_fault}
pub use Rattle.desk.specs.Documents.{unless_position_fault, edited_entry}
pub use Rattle.desk.specs.Edits.{Applied, put_applied, raised, at_revision, edited, Makes, Applies, OnlyBytes}
pub use Rattle.desk.specs.Effects.{Effect, of_document, replied, refused, Move, put, with_bytes, base64_bytes, Puts, Stays, Goes}
pub use Rattle.desk.specs.Lines.{line_of, page_of, lines_reply}
pub use Rattle.desk.specs.Lives.{OpensBegin, AdoptionsBegin, ClosesEnd, edited_by, with_planned, with_change, with_changes, is_edit, named_by, Act, Commanded}
pub use Rattle.desk.specs.Lives.{Adopted, Acts, is_close, edit_in, edits_of, ends_life, edited_by_all, NameFrom, IsLife, Lives, done, with_spliced, LeaveEach}
pub use Rattle.desk.specs.Lives.{LeadsSince, SinceLeads, with_new, with_given}
pub use Rattle.desk.specs.Log.{Leads, Leaves, last_of, log_length, logged, logged_all, all_leave, patch_of, untouched_by}
pub use Rattle.desk.specs.Open.{admitted, opened, adopted}
pub use Rattle.desk.specs.OpenDocuments.{AllOpened, entry_of, names, IsAdmitted, IsIdle}
pub use Rattle.desk.specs.Replace.{replace_effect}
pub use Rattle.desk.specs.{Shelf.Shelf, Since.patch_since, Since.since_reply, Since.with_range, Since.range_around}
pub use Rattle.desk.specs.declared.{change_cause.ChangeCause.ChangeCause, fault.Fault.Fault}
pub use Rattle.desk.specs.declared.fault.Fault.TheVariants.{NoDocument, OutOfMemory, NotKept, NameTaken, OutOfRange, Malformed}
pub use Rattle.desk.specs.declared.open_document.OpenDocument.{OpenDocument}
pub use Rattle.desk.specs.declared.{ops.Reply.Reply, ops.changes.MadeChanges.MadeChanges, untouched.Untouched.Untouched}
pub use Rattle.desk.specs.declared.ops.Reply.TheVariants.{Refused, Change, Closed, Diagnostics}
