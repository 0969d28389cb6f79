use Rattle.std.proofs.Common.{◌≡◌, ◌+◌, ◌-◌, ◌/◌, ◌^◌, ◌∙◌, ap, arith, drop, drop-drop, length, length-drop, take, take_all}
use Rattle.lane_ascii.{specs.Marks.mark_flags, proofs.Flags.mask-drop, proofs.MarkLanes.length-flags}
use Rattle.lane_ascii.proofs.line_ends.marks_left.Goals as goal
use lib.Lanes.{mask_l}

-- the last block is all that follows its start
pub returns : goal.returns
returns g c after_cr =
    let flags = mark_flags after_cr c.args.bytes.now in
    let last = length c.args.bytes.now - g.row.N in
    let skipped = c.args.at - last in
    let to : last + skipped ≡ c.args.at = omega arith in
    let whole = take_all g.row.N (drop last flags) (omega (arith, length-drop last flags, length-flags after_cr c.args.bytes.now)) in
    ap (λ m. m / 2 ^ skipped) (c.marks_in.ensures after_cr) ∙ mask-drop skipped (take g.row.N (drop last flags))
    ∙ ap (λ fs. mask_l (drop skipped fs)) whole ∙ ap mask_l (drop-drop skipped last flags ∙ ap (λ k. drop k flags) to)
