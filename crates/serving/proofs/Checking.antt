-- What is passed on behind the bytes that came.
use Rattle.std.proofs.Common.{◌≡◌, ℕ, zero, suc, ◌+◌, ◌<◌, Bool, true, false, not, List, [], ◌∷◌, length, drop, refl, sym, ap, ◌∙◌, arith}
use Rattle.std.proofs.Common.{◌++◌, ◌≤◌, take, slice_index_or, append_assoc, append-nil}
use Rattle.serving.specs.declared.{access.Access.Access, check.Check.Check}
use Rattle.serving.specs.declared.access.Access.TheVariants as accesses
use Rattle.serving.specs.declared.check.Check.TheVariants as checks
use Rattle.serving.specs.declared.first_line.{FirstLine.FirstLine, Progress.Progress}
use Rattle.serving.specs.Admitting.{admitted, behind_line}
use Rattle.serving.specs.Checking.{IsKnown, passed, left_by, left_of, line_left, rest_of, is_none}

-- nothing, where a byte differs
pub differs_is : (wanted : List ℕ) (room : ℕ) (bytes : List ℕ) → line_left wanted true room bytes ≡ []
differs_is wanted room [] = refl
differs_is wanted zero (b ∷ bytes) = grind arith
differs_is wanted (suc room) (b ∷ bytes) = grind (arith, differs_is wanted room bytes, differs_is (rest_of wanted) room bytes)

pub differs_not : (wanted : List ℕ) (differs : Bool) (room : ℕ) (bytes : List ℕ) → not differs ≡ false → line_left wanted differs room bytes ≡ []
differs_not wanted true room bytes h = differs_is wanted room bytes
differs_not wanted false room bytes h = cc

-- before the first byte, it is what comes behind the line that is wanted
pub line_is : (wanted : List ℕ) (room : ℕ) (bytes : List ℕ) → line_left wanted false room bytes ≡ behind_line wanted room bytes
line_is wanted room [] = refl
line_is [] zero (b ∷ bytes) = grind arith
line_is (w ∷ wanted) zero (b ∷ bytes) = grind arith
line_is [] (suc room) (b ∷ bytes) = grind (arith, line_is [] room bytes, differs_is [] room bytes)
line_is (w ∷ wanted) (suc room) (b ∷ bytes) =
    grind (arith, line_is (w ∷ wanted) room bytes, line_is wanted room bytes, differs_is wanted room bytes)

-- where some of the line is still wanted, its end is too early
pub ends_early : (wanted : List ℕ) (differs : Bool) (room : ℕ) (more : List ℕ) → is_none wanted ≡ false → line_left wanted differs room (10 ∷ more) ≡ []
ends_early [] differs room more some = cc
ends_early (w ∷ wanted) differs zero more some = refl
ends_early (w ∷ wanted) differs (suc room) more some = refl

pub some_wanted : (at : ℕ) (wanted : List ℕ) → at < length wanted → is_none (drop at wanted) ≡ false
some_wanted at [] small = absurd (omega arith)
some_wanted zero (w ∷ wanted) small = refl
some_wanted (suc at) (w ∷ wanted) small = some_wanted at wanted (omega (arith, small))

-- ---- from read to read

nothing_admitted : (access : Access) → admitted access [] ≡ []
nothing_admitted accesses.Any = refl
nothing_admitted accesses.NoRequest = refl
nothing_admitted accesses.Object = refl
nothing_admitted (accesses.Line wanted) = refl

nothing_passed : (check : Check) → passed check [] ≡ []
nothing_passed checks.Passed = refl
nothing_passed checks.Failed = refl
nothing_passed checks.NoRequest = refl
nothing_passed checks.Object = refl
nothing_passed (checks.Line line) = refl

-- what is known before the first byte
pub known_first : (access : Access) (check : Check) → ((bytes : List ℕ) → admitted access bytes ≡ passed check bytes) → IsKnown access check []
known_first access check same = λ more. rw (nothing_admitted access) (same more)

-- what these bytes add to what was passed on, if this is what a client's check passes on of them
pub given_on : (access : Access) (old new : Check) (seen bytes given : List ℕ) → IsKnown access old seen
    → ((more : List ℕ) → passed old (bytes ++ more) ≡ given ++ passed new more) → admitted access (seen ++ bytes) ≡ admitted access seen ++ given
given_on access old new seen bytes given known step =
    let here = step [] in
    let same : passed old bytes ≡ given = rw (append-nil bytes, nothing_passed new, append-nil given) at here in
    known bytes ∙ ap (λ l. admitted access seen ++ l) same

-- and what is known behind them
pub known_on : (access : Access) (old new : Check) (seen bytes given : List ℕ) → IsKnown access old seen
    → ((more : List ℕ) → passed old (bytes ++ more) ≡ given ++ passed new more) → IsKnown access new (seen ++ bytes)
known_on access old new seen bytes given known step = λ more.
    rw (given_on access old new seen bytes given known step, append_assoc seen bytes more, append_assoc (admitted access seen) given (passed new more))
    (known (bytes ++ more) ∙ ap (λ l. admitted access seen ++ l) (step more))

one_byte : (buf : List ℕ) (n : ℕ) → length buf ≡ 1 → n ≤ length buf → ¬ (n ≡ 0) → take n buf ≡ slice_index_or buf 0 0 ∷ []
one_byte [] n one few some = cc
one_byte (b ∷ []) zero one few some = absurd (some refl)
one_byte (b ∷ []) (suc zero) one few some = refl
one_byte (b ∷ []) (suc (suc n)) one few some = absurd (omega (arith, few))
one_byte (b ∷ x ∷ buf) n one few some = absurd (omega (arith, one))

-- a byte of the first line passes nothing on
pub line_goes_on : (access : Access) (old new : Check) (line : FirstLine) (progress : Progress) (seen after buf : List ℕ) (n : ℕ) → IsKnown access old seen
    → old ≡ checks.Line line → after ≡ seen ++ take n buf → length buf ≡ 1 → n ≤ length buf → ¬ (n ≡ 0)
    → ((more : List ℕ) → left_by progress more ≡ left_of line (slice_index_or buf 0 0 ∷ more)) → ((more : List ℕ) → passed new more ≡ left_by progress more)
    → admitted access after ≡ admitted access seen
line_goes_on access old new line progress seen after buf n known is came one few some next behind =
    ap (admitted access) came
    ∙ given_on access old new seen (take n buf) [] known (λ more. rw (is, one_byte buf n one few some) (sym (behind more ∙ next more)))
    ∙ append-nil (admitted access seen)
