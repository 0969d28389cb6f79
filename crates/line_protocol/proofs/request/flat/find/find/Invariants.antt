use Rattle.std.proofs.Common.{◌≡◌, ◌≤◌, length, take}
use Rattle.serde_json.specs.Find.{get_member}
use Rattle.line_protocol.specs.Flat.{members_data}
use Rattle.line_protocol.proofs.request.flat.find.find.Given as goal

abbrev pub invariant-members : goal.invariant-members
invariant-members l = (get_member l.name (members_data (take l.left l.members)) ≡ get_member l.name (members_data l.members)) × (l.left ≤ length l.members)

abbrev pub decreases-members : goal.decreases-members
decreases-members l = l.left
