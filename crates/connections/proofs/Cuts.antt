-- Bytes cut at their line feeds, in two parts and at the first line feed.
use Rattle.std.proofs.Common.{◌≡◌, ℕ, ◌+◌, ◌==◌, Bool, true, false, List, [], ◌∷◌, ◌++◌, length, take, if◌then◌else◌, refl, sym, ap, ◌∙◌, append_assoc}
use Rattle.std.proofs.{Common.append-nil, Math.Seq.take-append-add}
use Rattle.connections.proofs.Prelude.{arith, eqb-true, has_end, before_end, complete, unfinished}

pub complete-append : (line a b : List ℕ) → complete line (a ++ b) ≡ complete line a ++ complete (unfinished line a) b
complete-append line [] b = refl
complete-append line (x ∷ a) b = grind (arith, complete-append [] a b, complete-append (line ++ x ∷ []) a b)

pub unfinished-append : (line a b : List ℕ) → unfinished line (a ++ b) ≡ unfinished (unfinished line a) b
unfinished-append line [] b = refl
unfinished-append line (x ∷ a) b = grind (arith, unfinished-append [] a b, unfinished-append (line ++ x ∷ []) a b)

-- ---- bytes with no line feed

pub complete_without : (line xs : List ℕ) → has_end xs ≡ false → complete line xs ≡ []
complete_without line [] h = refl
complete_without line (x ∷ xs) h = grind (arith, complete_without (line ++ x ∷ []) xs)

pub unfinished_without : (line xs : List ℕ) → has_end xs ≡ false → unfinished line xs ≡ line ++ xs
unfinished_without line [] h = sym (append-nil line)
unfinished_without line (x ∷ xs) h = grind (arith, unfinished_without (line ++ x ∷ []) xs, append_assoc line (x ∷ []) xs)

-- ---- bytes with a line feed

-- the bytes before the first line feed have none
pub before_without : (xs : List ℕ) → has_end (before_end xs) ≡ false
before_without [] = refl
before_without (x ∷ xs) = grind (arith, before_without xs)

cut_byte : (x : ℕ) (xs : List ℕ) (t : Bool) → (x == 10) ≡ t → (t ≡ false → (rest : List ℕ) × (xs ≡ before_end xs ++ 10 ∷ rest))
    → (rest : List ℕ) × (x ∷ xs ≡ (if t then [] else x ∷ before_end xs) ++ 10 ∷ rest)
cut_byte x xs true e later = (xs, ap (λ b. b ∷ xs) (eqb-true x 10 e))
cut_byte x xs false e later = let found = later refl in (found.0, ap (λ l. x ∷ l) found.1)

-- what stands behind the first line feed
pub cut_at_end : (xs : List ℕ) → has_end xs ≡ true → (rest : List ℕ) × (xs ≡ before_end xs ++ 10 ∷ rest)
cut_at_end [] h = cc
cut_at_end (x ∷ xs) h = cut_byte x xs (x == 10) refl (λ e. cut_at_end xs (rw e at h))

-- the lines of bytes up to a line feed, and of those behind it
pub complete_at_end : (line before rest : List ℕ) → has_end before ≡ false → complete line (before ++ 10 ∷ rest) ≡ (line ++ before) ∷ complete [] rest
complete_at_end line before rest h =
    rw (complete-append line before (10 ∷ rest), complete_without line before h, unfinished_without line before h) refl

pub unfinished_at_end : (line before : List ℕ) → unfinished line (before ++ 10 ∷ []) ≡ []
unfinished_at_end line before = unfinished-append line before (10 ∷ [])

-- the bytes up to and with the first line feed
pub taken_at_end : (xs before rest : List ℕ) → xs ≡ before ++ 10 ∷ rest → take (length before + 1) xs ≡ before ++ 10 ∷ []
taken_at_end xs before rest e = ap (take (length before + 1)) e ∙ take-append-add before (10 ∷ rest) 1
