use Rattle.std.proofs.Common.{◌≡◌, ◌+◌, ◌-◌, ◌≤◌, length, drop}
use Rattle.std.specs.List.{prefix_len}
use Rattle.json.specs.Run.{is_plain}
use Rattle.line_protocol.proofs.request.flat.plain.plain_end.Given as goal

abbrev pub invariant-vectors : goal.invariant-vectors
invariant-vectors l =
    (l.from + prefix_len is_plain (drop l.from l.line) ≡ l.at + prefix_len is_plain (drop l.at l.line)) × (l.at ≤ length l.line)

abbrev pub decreases-vectors : goal.decreases-vectors
decreases-vectors l = length l.line - l.at
