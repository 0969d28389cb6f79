use Rattle.std.proofs.Common.{◌≡◌, ◌+◌, ◌-◌, ◌≤◌, length, drop}
use Rattle.std.specs.List.{prefix_len}
use Rattle.json.specs.Run.{is_plain}
use Rattle.line_protocol.proofs.request.flat.plain.end_of_plain.Given as goal

abbrev pub invariant-plain : goal.invariant-plain
invariant-plain l =
    (l.from + prefix_len is_plain (drop l.from l.line) ≡ l.at + prefix_len is_plain (drop l.at l.line)) × (l.at ≤ length l.line)

abbrev pub decreases-plain : goal.decreases-plain
decreases-plain l = length l.line - l.at
