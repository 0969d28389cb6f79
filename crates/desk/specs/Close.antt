-- Closing a document.
use Rattle.desk.specs.{Documents.Entry, Effects.Effect, Effects.Goes, declared.ops.Reply.TheVariants.Closed}

-- the reply has the revision that the document had
abbrev pub closed : Entry → Effect
closed h = record { reply = Closed h.revision; move = Goes }
