-- A trace without a head.
use Rattle.std.proofs.Common.{◌≡◌, ℕ, ◌+◌, ◌==◌, ◌||◌, Bool, true, false, List, [], ◌∷◌, ◌++◌, Option, Result, Err, if◌then◌else◌, refl, sym, ap, ◌∙◌, subst}
use Rattle.std.proofs.Common.{arith}
use Rattle.connections.specs.{CitedLaws.LinesCut, Lines.complete, Lines.unfinished, Lines.has_end, Lines.before_end, Traffic.Traffic}
use Rattle.desk.specs.Desk.{Office}
use Rattle.gateway.specs.{declared.traces.fault.TraceFault.TraceFault, declared.traces.fault.TraceFault.TheVariants.BadLine, Head.Heading, Head.HeadOn}
use Rattle.gateway.specs.{Head.HeadPlace, Head.ObeysAll, Head.essence, Head.first_place, Head.may_head, Headed.behind, Headed.BehindHead, Trace.TracesText}
use Rattle.gateway.proofs.Heads.{none_begun}

nothing_behind : {A : Type 0} (r : Result A TraceFault) → behind 0 r ≡ r
nothing_behind (Err (BadLine n)) = let same : 0 + n ≡ n = omega arith in ap (λ k. Err (BadLine k)) same
nothing_behind r = refl

no_letter : (t : Bool) (n : ℕ) (l : List ℕ) → ((n == 35) || ((n == 97) || (n == 112))) ≡ false → may_head (if t then [] else n ∷ l) ≡ false
no_letter true n l e = refl
no_letter false n l e = e

-- the lines of a text that doesn't begin as one of a head aren't obeyed
not_obeyed : LinesCut → (b : ℕ) (bs : List ℕ) (h k : Heading) (t : Bool) → has_end (b ∷ bs) ≡ t → ((b == 35) || ((b == 97) || (b == 112))) ≡ false
    → unfinished [] (b ∷ bs) ≡ [] → ObeysAll h (complete [] (b ∷ bs)) k → ⊥
not_obeyed cuts b bs h k false e other ends obeys = let whole : b ∷ bs ≡ [] = sym (cuts.unfinished_without [] (b ∷ bs) e) ∙ ends in cc
not_obeyed cuts b bs h k true e other ends obeys =
    let cut = cuts.cut_at_end (b ∷ bs) e in
    let lines = ap (complete []) cut.1 ∙ cuts.complete_at_end [] (before_end (b ∷ bs)) cut.0 (cuts.before_without (b ∷ bs)) in
    let first = subst (λ l. ObeysAll h l k) lines obeys in
    let never : false ≡ true = sym (no_letter (b == 10) b (before_end bs) other) ∙ first.1.0 in cc

in_front : LinesCut → (front back : List ℕ) (o p : Office) (place : HeadPlace) → may_head (front ++ back) ≡ false
    → HeadOn front o p first_place place → place.line ≡ [] → front ≡ []
in_front cuts [] back o p place other on ends = refl
in_front cuts (b ∷ bs) back o p place other on ends = absurd (not_obeyed cuts b bs _ _ (has_end (b ∷ bs)) refl other
    (none_begun (unfinished [] (b ∷ bs)) (sym on.begun ∙ ap essence ends)) on.obeys)

at_first : (front : List ℕ) (o p : Office) (place : HeadPlace) → front ≡ [] → HeadOn front o p first_place place → (place.lines ≡ 0) × (p ≡ o)
at_first front o p place none on =
    let empty = rw none at on in (empty.count, ap (λ (h : Heading). h.office) empty.obeys)

pub headless : LinesCut → (r : Result (Unit {0}) TraceFault) (read : List ℕ) (rest : Option (List ℕ)) (old new : Traffic)
    (before after : Option (List ℕ)) → may_head read ≡ false → BehindHead r read rest old new before after → TracesText r read rest old new before after
headless cuts r read rest old new before after other b =
    let none = in_front cuts b.head b.body old.office b.office b.place (rw b.is at other) b.obeyed b.ends in
    let first = at_first b.head old.office b.office b.place none b.obeyed in
    let answer : r ≡ b.answer = b.numbered ∙ ap (λ n. behind n b.answer) first.0 ∙ nothing_behind b.answer in
    rw (answer, b.is, none) (rw first.1 at b.traces)
