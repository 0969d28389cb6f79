use Rattle.std.proofs.{Common.arith, Common.take, lemmas.Simd.length-chunk}
use Rattle.state_memo.proofs.Fronts.{mask-outside}
use Rattle.state_memo.proofs.alike.outside_in_16.Goals as goal

pub returns : goal.returns
returns c = mask-outside 16 c.args.low c.args.high (take 16 c.args.bytes.now) (length-chunk 0 16 c.args.bytes.now c.requires) (omega arith)
