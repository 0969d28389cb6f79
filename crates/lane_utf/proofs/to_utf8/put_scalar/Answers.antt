use Rattle.std.{proofs.Common.ap, proofs.Common.sym, proofs.Common.◌∙◌, specs.Simd.Lanes.put_chunk, proofs.lemmas.Str.encode_ascii}
use Rattle.lane_utf.proofs.Putting.{one_put, two_put, four_put, encode_two, encode_four}
use Rattle.lane_utf.proofs.to_utf8.put_scalar.Goals as goal

pub returns-then-c-lt128-clause-bytes : goal.returns-then-c-lt128-clause-bytes
returns-then-c-lt128-clause-bytes c =
    one_put c.args.at _ c.args.bytes.now ∙ ap (put_chunk c.args.at c.args.bytes.now) (sym (encode_ascii c.args.c c.if-c-lt128.true))

pub returns-then-c-lt2048-clause-bytes : goal.returns-then-c-lt2048-clause-bytes
returns-then-c-lt2048-clause-bytes c = two_put c.args.at _ _ c.args.bytes.now
    ∙ ap (put_chunk c.args.at c.args.bytes.now) (sym (encode_two c.args.c c.if-c-lt128.false c.if-c-lt2048.true))

pub returns-else-c-lt65536-clause-bytes : goal.returns-else-c-lt65536-clause-bytes
returns-else-c-lt65536-clause-bytes c =
    four_put c.args.at _ _ _ _ c.args.bytes.now ∙ ap (put_chunk c.args.at c.args.bytes.now) (sym (encode_four c.args.c c.if-c-lt65536.false))
