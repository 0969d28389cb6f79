use Rattle.std.proofs.Common.{◌≡◌, take}
use Rattle.lane_ascii.specs.Marks.{marks, ends_cr}
use Rattle.lane_ascii.proofs.line_ends.count_short.Given as goal

abbrev pub invariant-bytes : goal.invariant-bytes
invariant-bytes l = (l.count ≡ marks l.after_cr (take l.byte-index l.bytes)) × (l.behind_cr ≡ ends_cr l.after_cr (take l.byte-index l.bytes))
