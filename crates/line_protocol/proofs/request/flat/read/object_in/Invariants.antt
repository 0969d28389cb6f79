use Rattle.std.proofs.Common.{◌≤◌, ◌-◌, ◌++◌, length, take, drop}
use Rattle.line_protocol.proofs.FlatTokens.{Printed, comma}
use Rattle.line_protocol.proofs.request.flat.read.object_in.Given as goal

-- the members so far, and the text after them
abbrev pub invariant-members : goal.invariant-members
invariant-members l =
    Printed l.text (take l.object.count l.object.members) (comma (take l.object.count l.object.members) ++ drop l.at l.text) × (l.at ≤ length l.text)

abbrev pub decreases-members : goal.decreases-members
decreases-members l = 8 - l.object.count
