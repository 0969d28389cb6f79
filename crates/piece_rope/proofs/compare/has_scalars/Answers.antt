use Rattle.std.proofs.Common.{rules, ◌≡◌, ◌+◌, ℕ, length, take, drop, ap, ◌∙◌, arith, length-append}
use Rattle.piece_rope.proofs.Prelude.{Decides-eqb, Sum, texts_of, edited_parts, made_pieces, text_in}
use Rattle.piece_rope.proofs.{Spanning.edited-count, Parting.texts-most, Texts.sums-scalars, Texts.texts-split, compare.has_scalars.Goals.In-Some}
use Rattle.piece_rope.proofs.compare.has_scalars.Goals as goal

-- the code points of the old text after the pieces that change, and those of the text that the edit would leave
counted : (c : In-Some) → let ps = c.args.edited.pieces.now.items in let e = c.args.edited.edit.now in
    let behind = length (texts_of (drop (e.last + length e.renewals.items) ps)) in
    (c.total.result.scalars ≡ c.scalars_in.result + behind)
    × (length (text_in (edited_parts ps e)) ≡ c.scalars_in-before.result + (length (texts_of (made_pieces ps e)) + (behind + length e.tail.text)))
counted c =
    let ps = c.args.edited.pieces.now.items in
    let e = c.args.edited.edit.now in
    let renewals : c.len.result ≡ length e.renewals.items = search rules in
    let n = e.last + length e.renewals.items in
    let own : c.scalars_in.result ≡ length (texts_of (take n ps)) = c.scalars_in.ensures ∙ ap (λ (k : ℕ). length (texts_of (take (e.last + k) ps))) renewals in
    let split : length (texts_of ps) ≡ length (texts_of (take n ps)) + length (texts_of (drop n ps)) = ap length (texts-split ps n)
    ∙ length-append (texts_of (take n ps)) (texts_of (drop n ps)) in (
      omega (arith, ap (λ (s : Sum). s.scalars) c.total.ensures, sums-scalars ps, own, split),
      omega (arith, edited-count c.args.edited.prepared, c.scalars_in-before.ensures),
    )

pub overflow_add-changed : goal.overflow_add-changed
overflow_add-changed c =
    let renewals : c.len.result ≡ length c.args.edited.edit.now.renewals.items = search rules in
    let fits = c.args.edited.prepared in
    omega (arith, renewals, fits.within, fits.few_old)

pub overflow_sub-behind : goal.overflow_sub-behind
overflow_sub-behind c =
    let ps = c.args.edited.pieces.now.items in
    let n = c.args.edited.edit.now.last + c.len.result in
    omega (arith, ap (λ (s : Sum). s.scalars) c.total.ensures, sums-scalars ps, c.scalars_in.ensures, texts-most ps n)

pub returns-in_default : goal.returns-in_default
returns-in_default c =
    let count = edited-count c.args.edited.prepared in
    ((λ no. absurd cc), (λ same. absurd (c.in_default.ensures (omega (arith, same, count, c.scalars_in-before.ensures)))))

pub returns-in_default-checked_sub : goal.returns-in_default-checked_sub
returns-in_default-checked_sub c =
    let all = counted (goal.at.returns-in_default-checked_sub c).In-Some in
    ((λ no. absurd cc), (λ same. absurd (c.in_default-checked_sub.ensures (omega (arith, same, all.0, all.1, c.in-Some.ensures.1)))))

pub returns-in-Some-made_counted : goal.returns-in-Some-made_counted
returns-in-Some-made_counted c =
    let e = c.args.edited.edit.now in
    let all = counted (goal.at.returns-in-Some-made_counted c).In-Some in
    let one = c.in-Some.ensures in
    let two = c.in-Some-checked_sub.ensures in
    let known = c.in-Some-made_counted.ensures.some in
    let tail = ap (λ (s : Sum). s.scalars) c.sum.ensures in
    let eq = Decides-eqb c.in-Some-made_counted.left c.sum.result.scalars in (
      (λ yes. omega (arith, eq.0 yes, all.0, all.1, one.0, one.1, two.0, two.1, known, tail, e.tail.summed.scalars)),
      (λ same. eq.1 (omega (arith, same, all.0, all.1, one.0, one.1, two.0, two.1, known, tail, e.tail.summed.scalars))),
    )

pub returns-in-None : goal.returns-in-None
returns-in-None c =
    let all = counted (goal.at.returns-in-None c).In-Some in
    let one = c.in-Some.ensures in
    let two = c.in-Some-checked_sub.ensures in
    ((λ no. absurd cc), (λ same. absurd (omega (arith, same, all.0, all.1, one.0, one.1, two.0, two.1, c.in-None.ensures.none))))
