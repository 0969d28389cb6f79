use Rattle.std.proofs.Common.{◌≡◌, ◌∙◌, ◌%◌, ◌^◌, ap, arith, leb, length, map, take, w8}
use Rattle.std.proofs.lemmas.{List.length-map, Simd.length-chunk, Simd.mask_l-mod, Simd.tops_compared, Simd.zip2_splat_left}
use Rattle.std.specs.Prelude.{replicate}
use lib.Lanes.{mask_l}
use Rattle.state_memo.proofs.alike.others_in_16.Goals as goal

pub returns : goal.returns
returns c =
    let v = take 16 c.args.bytes.now in
    let long : length v ≡ 16 = length-chunk 0 16 c.args.bytes.now c.requires in
    ap (λ xs. mask_l xs % 2 ^ 64) (tops_compared w8 leb (replicate 16 128) v ∙ zip2_splat_left leb 128 16 v long)
    ∙ mask_l-mod (map (leb 128) v) 64 (omega (arith, length-map v (leb 128), long))
