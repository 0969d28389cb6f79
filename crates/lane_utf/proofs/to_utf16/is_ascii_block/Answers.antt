use Rattle.std.proofs.{Common.take, Common.drop, Common.arith, Common.sym, Common.◌∙◌, Common.w8, Common.eqb-true, lemmas.Simd.length-chunk}
use Rattle.lane_utf.proofs.Measures.{mask_least, no_bit_set}
use Rattle.lane_utf.proofs.to_utf16.is_ascii_block.Goals as goal

pub returns : goal.returns
returns c e =
    let v = take 16 (drop c.args.at c.args.bytes.now) in
    no_bit_set v (sym (mask_least w8 16 128 v (length-chunk c.args.at 16 c.args.bytes.now c.requires) (omega arith)) ∙ eqb-true _ 0 e)
