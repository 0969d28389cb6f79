-- A slice that is worked off from its front.
use Rattle.std.proofs.Common.{◌≡◌, ℕ, ◌+◌, ◌-◌, ◌≤◌, List, ◌++◌, length, take, drop, Option, sym, subst, ap, ◌∙◌, arith, length-drop, take-append-drop}
use Rattle.std.proofs.{KnownBytes.Appends-trans, lemmas.List.take-take, lemmas.List.take_all, lemmas.List.length-take, Math.Seq.take-add}
use Rattle.std.specs.Io.KnownBytes.{Appends}

-- `xs[..done]` and a front of `&xs[done..]`
pub front_more : (xs : List ℕ) (done n : ℕ) → n ≤ length xs - done → take done xs ++ take n (take (length xs - done) (drop done xs)) ≡ take (done + n) xs
front_more xs done n small =
    let cut : take n (take (length xs - done) (drop done xs)) ≡ take n (drop done xs) = take-take n (length xs - done) (drop done xs) small in
    ap (λ l. take done xs ++ l) cut ∙ sym (take-add done n xs)

-- `xs[..done]` and `&xs[done..]`
pub front_rest : (xs : List ℕ) (done : ℕ) → take done xs ++ take (length xs - done) (drop done xs) ≡ xs
front_rest xs done =
    let whole : take (length xs - done) (drop done xs) ≡ drop done xs = take_all (length xs - done) (drop done xs) (omega (arith, length-drop done xs)) in
    ap (λ l. take done xs ++ l) whole ∙ take-append-drop done xs

-- the borrowed `&xs[done..]` is no longer than what is left
pub lent_within : (xs : List ℕ) (done n : ℕ) → n ≤ length (take (length xs - done) (drop done xs)) → n ≤ length xs - done
lent_within xs done n small = omega (arith, length-take (length xs - done) (drop done xs), small)

-- `xs[..done]` was written, and then a front of `&xs[done..]`
pub written_more : (a b c : Option (List ℕ)) (xs : List ℕ) (done n : ℕ) → n ≤ length xs - done → Appends a b (take done xs)
    → Appends b c (take n (take (length xs - done) (drop done xs))) → Appends a c (take (done + n) xs)
written_more a b c xs done n small first second =
    subst (Appends a c) (front_more xs done n small) (Appends-trans a b c _ _ first second)
