-- What one complete line does: its reply, and the desk after it.
pub use Rattle.line_protocol.specs.Limits.{line_limit}
use Rattle.std.specs.Prelude.{◌≡◌, ℕ, nat_lt, List, length, Result, Ok, Err, MatchBool}
use Rattle.desk.specs.{Desk.Office, Desk.Outcome, Desk.answer_of, Turn.turn_after}
use Rattle.line_protocol.specs.{Request.Request, Request.AtDocument, Request.OfDesk, Request.request_of_line}
use Rattle.line_protocol.specs.{Ops.reply_text, Ops.overview_text, Replies.refusal_text, Replies.memory_text}
use Rattle.line_protocol.specs.declared.request.refusal.Refusal.{Refusal, TheVariants.LineTooLong}

abbrev pub too_long_text : List ℕ
too_long_text = refusal_text LineTooLong

-- a reply's text, and the desk after it
pub record LineStep : Type 0 where
  pub text : List ℕ
  pub office : Office

-- the desk answered the request with this number
abbrev pub answered : Office → ℕ → Outcome → LineStep
answered o id outcome = record {
  text = reply_text id outcome.reply;
  office = record { indexes = o.indexes; labels = o.labels; documents = outcome.documents; turn = turn_after o.turn outcome.reply };
}

-- what the request with this number does
abbrev pub step_on : Office → ℕ → Request → LineStep
step_on o id (AtDocument asked) = answered o id (answer_of o asked)
step_on o id (OfDesk overview) = record { text = overview_text id o overview; office = o }

-- what a request does, or the refusal of its line
abbrev pub step_by : Office → Result (ℕ × Request) Refusal → LineStep
step_by o (Ok request) = step_on o request.0 request.1
step_by o (Err refusal) = record { text = refusal_text refusal; office = o }

-- what a line does that is not too long
abbrev pub step_of : Office → List ℕ → LineStep
step_of o line = step_by o (request_of_line line)

-- How a reply and the desk after it came about: they are those of the step; or memory ran out, which the reply says, and nothing changed.
pub data IsStep (old : Office) (step : LineStep) (text : List ℕ) (new : Office) : Type 0 where
  taken : step ≡ record { text = text; office = new } → IsStep old step text new
  ran_out : text ≡ memory_text → new ≡ old → IsStep old step text new

-- A reply to a line, and the desk after it. A line over the limit is always answered LineTooLong.
unfoldable pub Replies : Office → List ℕ → List ℕ → Office → Type 0
Replies old line text new =
    MatchBool (nat_lt line_limit (length line)) ((text ≡ too_long_text) × (new ≡ old)) (IsStep old (step_of old line) text new)
