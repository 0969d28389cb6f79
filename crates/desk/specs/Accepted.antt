-- Which replies accept a command, and what changes nothing.
use Rattle.std.specs.Prelude.{◌≡◌, ◌≢◌, Bool, true, false}
pub use Rattle.desk.specs.Turn.{reports_change}
use Rattle.desk.specs.{Commands.Asked, Desk.Office, Desk.answer_of, declared.fault.Fault.Fault, declared.fault.Fault.TheVariants.OutOfMemory}
use Rattle.desk.specs.declared.ops.Reply.{Reply, TheVariants.Refused}

abbrev pub is_accepted : Reply → Bool
is_accepted (Refused fault) = false
is_accepted reply = true

-- a command changes nothing, except an open, an edit or a close that is accepted
abbrev pub OnlyChangesChange : Type 0
OnlyChangesChange = (o : Office) (c : Asked) → reports_change (answer_of o c).reply ≡ false → (answer_of o c).documents ≡ o.documents

-- a command that is refused leaves the documents as they were
abbrev pub RefusalsChangeNothing : Type 0
RefusalsChangeNothing = (o : Office) (c : Asked) (fault : Fault) → (answer_of o c).reply ≡ Refused fault → (answer_of o c).documents ≡ o.documents

-- no command's answer is that memory ran out
abbrev pub MemoryIsNeverWanted : Type 0
MemoryIsNeverWanted = (o : Office) (c : Asked) → (answer_of o c).reply ≢ Refused OutOfMemory
