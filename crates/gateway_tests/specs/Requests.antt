-- What the worked lines ask.
use Rattle.std.specs.Prelude.{ℕ, List}
use Rattle.desk.specs.Commands.{Ask, Question, asked_of, question_of}
use Rattle.line_protocol.specs.Request.{Request, AtDocument}

abbrev pub asks_at : List ℕ → Ask → Request
asks_at doc ask = AtDocument (asked_of doc ask)

abbrev pub question_at : List ℕ → Question → Request
question_at doc q = AtDocument (question_of doc q)
