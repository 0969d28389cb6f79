use Rattle.std.proofs.Common.{length, chars}
use denote.{Text.Utf8, Shadow.shadow}
use Rattle.encoders.specs.Bytewise.{IsBytewise}
use Rattle.encoders.proofs.single_byte.front_of.Given as goal

abbrev pub invariant-parts : goal.invariant-parts
invariant-parts l = shadow (Utf8 l.rest) × IsBytewise l.index (chars l.fn.text) l.bytes.items (chars l.rest)

abbrev pub decreases-parts : goal.decreases-parts
decreases-parts l = length l.rest
