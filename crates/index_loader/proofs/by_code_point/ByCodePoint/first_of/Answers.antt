use Rattle.std.proofs.Common.{◌≡◌, ℕ, ◌<◌, Some, sym, ◌∙◌, arith}
use Rattle.index_loader.proofs.{ByCodePointLemmas.first-above, CellLemmas.first-least, CellLemmas.least-others}
use Rattle.index_loader.proofs.by_code_point.ByCodePoint.first_of.Goals.{in_default-via-in-Some+else-bound-first, in_default-via-in_default}
use Rattle.index_loader.specs.FirstPointers.{first_in, pairs_held}
use Rattle.index_loader.proofs.by_code_point.ByCodePoint.first_of.Goals as goal

pub returns-in-Some-clause-pointer : goal.returns-in-Some-clause-pointer
returns-in-Some-clause-pointer c =
    rw (← c.self.view_is)
    (first-above (pairs_held c.self.inside.firsts c.self.inside.others.items) c.args.code_point c.args.bound c.in-Some.first
    (first-least c.self.inside.firsts c.self.inside.others.items c.self.invariant.1 c.args.code_point c.in-Some.first
    (sym c.in-Some.ensures.value)) c.if-bound-first.true)

pub returns-in_default-clause-pointer : goal.returns-in_default-clause-pointer
returns-in_default-clause-pointer c =
    let below : (p : ℕ) → first_in c.self.inside.firsts c.args.code_point ≡ Some p → p < c.args.bound =
    λ p is. elim c.in_default.branch [
      | in_default-via-in-Some+else-bound-first w ↦ let e : w.in-Some.first ≡ p = cc in omega (arith, w.if-bound-first.false)
      | in_default-via-in_default w ↦ absurd (cc)
    ] in
    rw (← c.self.view_is)
    (c.first_among.ensures.pointer
    ∙ (rw c.deref.ensures.value (least-others c.self.inside.firsts c.self.inside.others.items c.args.code_point c.args.bound below)))
