-- What many proofs here name, passed on from one place. Declares nothing.
pub use Rattle.std.proofs.Common.{◌≡◌, ℕ, ◌+◌, false, List, [], map, drop, option_map, sym, refl, ap, ◌∙◌}
pub use Rattle.std.proofs.{Math.ListN.drop_of_length-le, lemmas.Result.IfOk-weaker}
pub use Rattle.desk.specs.{Accepted.reports_change, Accepted.OnlyChangesChange, Changes.TextChange, Changes.change_of}
pub use Rattle.desk.specs.{Commands.Asked, Commands.asked, Desk.Office, Desk.answer_of, Desk.Outcome, Desk.Answers, Turn.turn_after}
pub use Rattle.desk.specs.declared.ops.Reply.{Reply, TheVariants.Edited, TheVariants.Change, TheVariants.Changes, TheVariants.Closed, TheVariants.Refused}
pub use Rattle.json.specs.Print.{escape, quoted}
unfoldable pub use Rattle.json.specs.Print.{escape_byte}
pub use Rattle.serde_json.specs.{Data.Members, Data.no_members, Data.member, Data.Data, Events.items_len, Events.members_len, Events.SendsValue}
pub use Rattle.serde_json.specs.{View.view, View.items_view, Written.has_float, Written.members_have_float, declared.value.Value.Value}
pub use Rattle.line_protocol.specs.{Ops.reply_text, Ops.is_short, Replies.memory_text, Replies.merged, Replies.line_of, Replies.refusal_text, Values.items_of}
pub use Rattle.line_protocol.specs.Fields.{◌>>=◌, as_change, as_changes}
pub use Rattle.line_protocol.specs.Request.{Request, AtDocument, OfDesk, request_of_line, json_of_line, request_of, IsJsonOfLine, IsRequest}
pub use Rattle.line_protocol.specs.Step.{ran_out, line_limit, too_long_text, LineStep, IsStep, taken, step_by, step_of, step_on, answered}
pub use Rattle.line_protocol.specs.Writing.{MemberList, IsNext, members_of, content_data, is_plain, all_plain, IsLineOf}
pub use Rattle.line_protocol.specs.declared.request.refusal.Refusal.{Refusal}
unfoldable pub use Rattle.line_protocol.specs.Step.{Replies}
