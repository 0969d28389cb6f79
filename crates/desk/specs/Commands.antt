-- The commands: what a client asks of the desk, and what a question is answered. Texts are lists of UTF-8 bytes.
use Rattle.std.specs.Prelude.{ℕ, List, map, Option, Result, Ok}
use Rattle.enc_names.specs.{declared.bom.Bom.Bom, Labels.LabelTable, Labels.lookup_in}
use Rattle.index_loader.specs.Files.{Files}
use Rattle.position_map.specs.declared.{position.Range.Range, unit.Unit.Unit as TextUnit}
use Rattle.encoders.specs.declared.mode.EncodeMode.{EncodeMode}
use Rattle.desk.specs.{Changes.TextChange, Changes.change_of, Documents.Entry, Plan.plan_reply, Text.text_reply, Source.source_reply}
use Rattle.desk.specs.{Encode.encode_reply_as, Errors.errors_reply, Diagnostics.diagnostics_reply, Lines.lines_reply, Position.position_reply}
use Rattle.desk.specs.{Offset.offset_reply, Place.place_reply, Since.since_reply, Stat.stat_reply, declared.fault.Fault.Fault, declared.ops.Command.Command}
use Rattle.desk.specs.declared.ops.Command.TheVariants as command
use Rattle.desk.specs.declared.{ops.Reply.Reply, page_start.PageStart.PageStart, place_unit.PlaceUnit.PlaceUnit, text_mode.TextMode.TextMode}

-- a question to an open document, which leaves it unchanged
pub data Question : Type 0 where
  -- unit range text
  Plan : TextUnit → Option Range → List ℕ → Question
  -- from to mode
  Text : ℕ → ℕ → TextMode → Question
  -- at len
  Source : ℕ → ℕ → Question
  -- from to label mode
  Encode : ℕ → ℕ → List ℕ → EncodeMode → Question
  -- from max
  Errors : ℕ → ℕ → Question
  -- start max unit
  Diagnostics : PageStart → ℕ → TextUnit → Question
  -- from max
  Lines : ℕ → ℕ → Question
  -- offset unit
  Position : ℕ → TextUnit → Question
  -- line character unit
  Offset : ℕ → ℕ → TextUnit → Question
  -- unit value
  Place : PlaceUnit → ℕ → Question
  -- rev unit
  Since : ℕ → Option TextUnit → Question
  Stat : Question

-- what is asked at the name of a document
pub data Ask : Type 0 where
  -- label bytes bom
  Open : List ℕ → List ℕ → Bom → Ask
  Close : Ask
  -- rev at del bytes
  Splice : ℕ → ℕ → ℕ → List ℕ → Ask
  -- rev unit range text
  Change : ℕ → TextUnit → Option Range → List ℕ → Ask
  -- rev unit changes
  Changes : ℕ → TextUnit → List TextChange → Ask
  -- rev unit range text bytes
  Replace : ℕ → TextUnit → Option Range → List ℕ → List ℕ → Ask
  Asks : Question → Ask

-- the name of a document, and what is asked there
pub record Asked : Type 0 where
  pub doc : List ℕ
  pub ask : Ask

abbrev pub asked_of : List ℕ → Ask → Asked
asked_of doc ask = record { doc = doc; ask = ask }

abbrev pub question_of : List ℕ → Question → Asked
question_of doc q = asked_of doc (Asks q)

abbrev pub asked : Command → Asked
asked (command.Open c) = asked_of c.doc.now (Open c.label.now c.bytes.now c.bom)
asked (command.Close c) = asked_of c.doc.now Close
asked (command.Splice c) = asked_of c.doc.now (Splice c.rev c.at c.del c.bytes.now)
asked (command.Change c) = asked_of c.doc.now (Change c.rev c.unit c.range c.text.now)
asked (command.Changes c) = asked_of c.doc.now (Changes c.rev c.unit (map change_of c.changes.items))
asked (command.Replace c) = asked_of c.doc.now (Replace c.rev c.unit c.range c.text.now c.bytes.now)
asked (command.Plan c) = question_of c.doc.now (Plan c.unit c.range c.text.now)
asked (command.Text c) = question_of c.doc.now (Text c.from c.to c.mode)
asked (command.Source c) = question_of c.doc.now (Source c.at c.len)
asked (command.Encode c) = question_of c.doc.now (Encode c.from c.to c.label.now c.mode)
asked (command.Errors c) = question_of c.doc.now (Errors c.from c.max)
asked (command.Diagnostics c) = question_of c.doc.now (Diagnostics c.start c.max c.unit)
asked (command.Lines c) = question_of c.doc.now (Lines c.from c.max)
asked (command.Position c) = question_of c.doc.now (Position c.offset c.unit)
asked (command.Offset c) = question_of c.doc.now (Offset c.line c.character c.unit)
asked (command.Place c) = question_of c.doc.now (Place c.unit c.value)
asked (command.Since c) = question_of c.doc.now (Since c.rev c.unit)
asked (command.Stat c) = question_of c.doc.now Stat

-- what an entry answers to a question, by the index files and labels
abbrev pub answer : Files → LabelTable → Entry → Question → Result Reply Fault
answer indexes labels h (Plan unit range text) = plan_reply indexes h unit range text
answer indexes labels h (Text from to mode) = text_reply indexes h from to mode
answer indexes labels h (Source at len) = source_reply h at len
answer indexes labels h (Encode from to label mode) = encode_reply_as indexes h from to (lookup_in labels label) mode
answer indexes labels h (Errors from max) = errors_reply indexes h from max
answer indexes labels h (Diagnostics start max unit) = diagnostics_reply indexes h start max unit
answer indexes labels h (Lines from max) = lines_reply indexes h from max
answer indexes labels h (Position offset unit) = position_reply indexes h offset unit
answer indexes labels h (Offset line character unit) = offset_reply indexes h line character unit
answer indexes labels h (Place unit value) = place_reply indexes h unit value
answer indexes labels h (Since rev unit) = since_reply indexes h rev unit
answer indexes labels h Stat = Ok (stat_reply indexes h)
