-- The numbers of texts in a row.
use Rattle.std.proofs.Common.{◌≡◌, refl, sym, ap, ◌∙◌, ℕ, ◌+◌, Bool, true, false, not, cond, ◌==◌, ◌||◌, ◌&&◌, List, [], ◌∷◌, ◌++◌, length, length-append}
use Rattle.std.proofs.Common.{arith}
use Rattle.state_memo.proofs.Prelude.{nat_tests, Sum, cr, lf, one_if, marks, ends_cr, total_width, utf8_width, utf16_width, Ended, IsSumOf, begins_lf, joined}
use Rattle.lemmas.proofs.Recursion.{counts-append, sum-append, walk-append}
use Rattle.state_memo.proofs.Walks.{errors-append, scalars-append}

flag_count : (f x y : Bool) (k : ℕ) → (x ≡ true → y ≡ false) → one_if (x || (y && not f)) + k + one_if (f && y) ≡ one_if (x || (y && not false)) + k
flag_count f x y k d = grind (arith, d)

not_both : (c : ℕ) → (c == 13) ≡ true → (c == 10) ≡ false
not_both c e = let h : c ≡ 13 = grind (arith, nat_tests) in ap (λ v. v == 10) h

-- an LF after a CR isn't a mark
marks-flag : (f : Bool) (cs : List ℕ) → marks f cs + one_if (f && begins_lf cs) ≡ marks false cs
marks-flag true [] = refl
marks-flag false [] = refl
marks-flag f (c ∷ cs) = flag_count f (c == cr) (c == lf) (marks (c == cr) cs) (not_both c)

lf_joined : (a b : List ℕ) → cond (length a == 0) (begins_lf b) (begins_lf a) ≡ begins_lf (a ++ b)
lf_joined [] b = refl
lf_joined (x ∷ xs) b = let t : (length (x ∷ xs) == 0) ≡ false = grind (arith, nat_tests) in ap (λ z. cond z (begins_lf b) (x == lf)) t

cr_joined : (f : Bool) (b : List ℕ) → cond (length b == 0) f (ends_cr false b) ≡ ends_cr f b
cr_joined f [] = refl
cr_joined f (x ∷ xs) = let t : (length (x ∷ xs) == 0) ≡ false = grind (arith, nat_tests) in ap (λ z. cond z f (ends_cr (x == cr) xs)) t

pub IsSumOf-joined : (a b : List ℕ) (is js : List Ended) (s t : Sum) → IsSumOf a is s → IsSumOf b js t → IsSumOf (a ++ b) (is ++ js) (joined s t)
IsSumOf-joined a b is js s t x y =
    let parts = counts-append marks _ _ (λ _. refl) (λ _ _ _. refl) ends_cr (λ _. refl) (λ _ _ _. refl) false a b in
    let meet : (s.cr_last && t.lf_first) ≡ (ends_cr false a && begins_lf b) = cc (x.cr_last, y.lf_first) in
    record {
      scalars = omega (arith, x.scalars, y.scalars, length-append a b);
      utf16 = omega (arith, x.utf16, y.utf16, sum-append (total_width utf16_width) _ refl (λ _ _. refl) a b);
      utf8 = omega (arith, x.utf8, y.utf8, sum-append (total_width utf8_width) _ refl (λ _ _. refl) a b);
      errors = omega (arith, x.errors, y.errors, errors-append is js);
      marks = omega (arith, x.marks, y.marks, parts, marks-flag (ends_cr false a) b, ap one_if meet);
      lf_first = rw (x.scalars, y.lf_first, x.lf_first) (lf_joined a b);
      cr_last = rw (y.scalars, x.cr_last, y.cr_last)
          (cr_joined (ends_cr false a) b ∙ sym (walk-append ends_cr _ (λ _. refl) (λ _ _ _. refl) false a b));
      counted = omega (arith, x.counted, y.counted, length-append a b, scalars-append is js);
    }
