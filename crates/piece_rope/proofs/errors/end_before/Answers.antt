use Rattle.piece_rope.proofs.Prelude.{◌≡◌, ap, sym, ◌∙◌, ℕ, suc, ◌-◌, arith, rules, None, slice_get, length, take, Outcome, Sum, sums_of, last_from, ends_at}
use Rattle.piece_rope.proofs.{Erring.bytes-back, Erring.end-back, Erring.last-none, Erring.last-some, errors.end_before.Goals.After-sum-base}
use Rattle.piece_rope.proofs.errors.end_before.Goals as goal

-- the bytes before the piece, and where the last item up to its end ends
base : (c : After-sum-base) → c.pieces.base - c.sum-base.result.bytes ≡ (sums_of (take (c.pieces.left - 1) c.args.pieces.now.items)).bytes
base c =
    end-back c.args.bom (c.pieces.left - 1) c.args.pieces.now.items c.get.result.now c.get.ensures c.pieces.left c.pieces.base
    c.sum-base.result.bytes (omega (arith, c.pieces-test.true))
    c.pieces.invariant.base (ap (λ (s : Sum). s.bytes) (c.sum-base.ensures ∙ ap (λ (o : Outcome). o.sum) c.here-here.ensures))

last : (c : After-sum-base) → last_from 0 c.args.bom (take (suc (c.pieces.left - 1)) c.args.pieces.now.items)
    ≡ last_from 0 c.args.bom (take c.args.place c.args.pieces.now.items)
last c =
    let k : suc (c.pieces.left - 1) ≡ c.pieces.left = omega (arith, c.pieces-test.true) in
    ap (λ (n : ℕ). last_from 0 c.args.bom (take n c.args.pieces.now.items)) k ∙ c.pieces.invariant.last

pub overflow_sub-base : goal.overflow_sub-base
overflow_sub-base c =
    let ps = c.args.pieces.now.items in
    let next = c.pieces.left - 1 in
    let k : suc next ≡ c.pieces.left = omega (arith, c.pieces-test.true) in
    let here = ap (λ (s : Sum). s.bytes) (c.sum-base.ensures ∙ ap (λ (o : Outcome). o.sum) c.here-here.ensures) in
    let back = bytes-back next ps c.get.result.now c.get.ensures in
    omega (arith, back, ap (λ (n : ℕ). (sums_of (take n ps)).bytes) k, c.pieces.invariant.base, here)

pub returns-in-Some : goal.returns-in-Some
returns-in-Some c =
    let x = (goal.at.returns-in-Some c).After-sum-base in
    let es = c.here-here.result.now.items in
    let item = c.in-Some.item in
    let begun = c.pieces.base - c.sum-base.result.bytes in
    let own = ap (λ (o : Outcome). o.items) c.here-here.ensures in
    let to_is : c.saturating_add_signed.result ≡ ends_at begun item.end = search rules in
    to_is ∙ last-some c.args.bom (c.pieces.left - 1) c.args.pieces.now.items c.get.result.now c.get.ensures es item begun own
    (sym (rw c.items.ensures at c.in-Some.ensures)) (base x) ∙ last x

pub pieces-preserved : goal.pieces-preserved
pieces-preserved c =
    let x = (goal.at.pieces-preserved c).After-sum-base in
    let es = c.here-here.result.now.items in
    let none : slice_get es (length es - 1) ≡ None = search rules in
    record {
      within = omega (arith, c.pieces.invariant.within);
      base = base x;
      last = last-none c.args.bom (c.pieces.left - 1) c.args.pieces.now.items c.get.result.now c.get.ensures es
          (ap (λ (o : Outcome). o.items) c.here-here.ensures) none ∙ last x;
    }
