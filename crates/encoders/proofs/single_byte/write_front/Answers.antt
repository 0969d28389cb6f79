use Rattle.std.{proofs.Common.arith, specs.Str.Iter.chars_rest, proofs.lemmas.Str.IsUtf8-past_char, proofs.lemmas.Str.chars_past_char}
use Rattle.encoders.proofs.Bytewise.{fewer, front-more}
use Rattle.encoders.proofs.single_byte.write_front.Goals as goal

pub code_points-preserved : goal.code_points-preserved
code_points-preserved c =
    let before = chars_rest c.code_points.rest in
    let behind = chars_rest c.next.new.self in
    let code_point = c.in-Some.code_point in
    let valid = c.in-Some.ensures.steps.0 in (
      IsUtf8-past_char before behind code_point c.code_points.invariant.0 valid,
      Prim.omega (arith, c.code_points-test.true),
      Prim.omega (arith, fewer before behind code_point valid, c.code_points.invariant.2),
      front-more _ c.code_points.block c.code_points.count c.in-Some-byte_of.byte
          (rw (chars_past_char before behind code_point c.code_points.invariant.0 valid) at c.code_points.invariant.3)
          c.in-Some-byte_of.ensures (Prim.omega (arith, c.code_points-test.true, c.told-block)),
    )
