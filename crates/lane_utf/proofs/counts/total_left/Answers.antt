use Rattle.std.proofs.Common.{◌≡◌, ◌+◌, ◌-◌, length, drop, ap, ◌∙◌, arith, take_all, drop-drop, length-drop}
use Rattle.lane_utf.specs.Widths.{total_width}
use Rattle.lane_utf.proofs.counts.total_left.Goals as goal

-- the last block is all that follows its start
pub returns : goal.returns
returns g c =
    let bytes = c.args.bytes.now in
    let last = length bytes - 16 in
    let skipped = c.args.from - last in
    let to : last + skipped ≡ c.args.from = omega arith in
    let whole = take_all 16 (drop last bytes) (omega (arith, length-drop last bytes)) in
    c.behind.ensures
    ∙ ap (λ xs. total_width g.M.Measure.weight (drop skipped xs)) whole
    ∙ ap (total_width g.M.Measure.weight) (drop-drop skipped last bytes ∙ ap (λ k. drop k bytes) to)
