-- Texts that are written one after another.
use Rattle.std.proofs.Common.{◌≡◌, ℕ, List, [], ◌∷◌, ◌++◌, Option, Result, Ok, Err, sym, ap, ◌∙◌, subst, append_assoc, arith, length-append, OnOk}
use Rattle.gateway.proofs.Prelude.{OnErr, decimal, Appends-trans, Appends, printed, WritesAll}
use Rattle.devices.specs.Devices.{AppendsPart}

-- a text was written, and what came of the next one
pub wrote-then : {A E : Type 0} (r : Result A E) (x y z : Option (List ℕ)) (a b : List ℕ) → Appends x y a → WritesAll r b y z → WritesAll r (a ++ b) x z
wrote-then (Ok u) x y z a b p q = Appends-trans x y z a b p q
wrote-then (Err f) x y z a b p q = (a ++ q.0, q.1, ap (λ l. a ++ l) q.2 ∙ sym (append_assoc a q.0 q.1), q.3, Appends-trans x y z a q.0 p q.4)

-- a text whose write broke off, and more that was to come
pub wrote-front : (x y : Option (List ℕ)) (a b : List ℕ) → AppendsPart x y a → AppendsPart x y (a ++ b)
wrote-front x y a b p = (p.0, p.1 ++ b, ap (λ l. l ++ b) p.2 ∙ append_assoc p.0 p.1 b, (let n = length-append p.1 b in omega (arith, n, p.3)), p.4)

by_answer : {A E : Type 0} (r : Result A E) (text : List ℕ) (x y : Option (List ℕ)) → OnOk r (Appends x y text)
    → OnErr r (AppendsPart x y text) → WritesAll r text x y
by_answer (Ok u) text x y ok err = ok
by_answer (Err f) text x y ok err = err

-- a line after the number of its connection
pub line-then : {A E : Type 0} (r : Result A E) (c : ℕ) (number line : List ℕ) (x y z : Option (List ℕ)) → number ≡ decimal c ++ 32 ∷ [] → Appends x y number
    → OnOk r (Appends y z line) → OnErr r (AppendsPart y z line) → WritesAll r (printed (c, line)) x z
line-then r c number line x y z is gone ok err =
    subst (λ t. WritesAll r t x z) (ap (λ n. n ++ line) is ∙ append_assoc (decimal c) (32 ∷ []) line)
    (wrote-then r x y z number line gone (by_answer r line y z ok err))

pub line-front : (c : ℕ) (number line : List ℕ) (x y : Option (List ℕ)) → number ≡ decimal c ++ 32 ∷ [] → AppendsPart x y number
    → AppendsPart x y (printed (c, line))
line-front c number line x y is gone =
    subst (λ t. AppendsPart x y t) (ap (λ n. n ++ line) is ∙ append_assoc (decimal c) (32 ∷ []) line) (wrote-front x y number line gone)
