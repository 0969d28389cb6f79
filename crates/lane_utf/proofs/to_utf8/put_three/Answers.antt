use Rattle.std.{proofs.Common.ap, proofs.Common.sym, proofs.Common.◌∙◌, specs.Simd.Lanes.put_chunk}
use Rattle.lane_utf.proofs.Putting.{three_put, encode_three}
use Rattle.lane_utf.proofs.to_utf8.put_three.Goals as goal

pub returns : goal.returns
returns c = three_put c.args.at _ _ _ c.args.bytes.now
    ∙ ap (put_chunk c.args.at c.args.bytes.now) (sym (encode_three c.args.c c.requires.least c.requires.most))
