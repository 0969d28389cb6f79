use Rattle.std.proofs.Common.{◌+◌, ◌-◌, ◌≤◌, length, take, chars}
use Rattle.std.specs.Str.{IsUtf8, Iter.chars_rest}
use Rattle.encoders.specs.Bytewise.{IsBytewise}
use Rattle.encoders.proofs.single_byte.write_front.Given as goal

abbrev pub invariant-code_points : goal.invariant-code_points
invariant-code_points l =
    IsUtf8 (chars_rest l.rest)
    × (l.count ≤ 64)
    × (length (chars_rest l.rest) + l.count ≤ length l.fn.text)
    × IsBytewise l.index (chars l.fn.text) (take l.count l.block) (chars (chars_rest l.rest))

abbrev pub decreases-code_points : goal.decreases-code_points
decreases-code_points l = 64 - l.count
