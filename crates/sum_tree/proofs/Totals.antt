-- Sums of lists that are joined and cut.
use Rattle.std.proofs.Common.{◌≡◌, ◌<◌, ◌^◌, List, [], ◌∷◌, ◌++◌, length, ap, sym, ◌∙◌, subst, refl, arith, length-append, append-nil}
use Rattle.sum_tree.specs.Sums.{MonoidLaws, total, AllRunsFit, IsSummable}

-- the sum of two lists is the join of their sums
pub total-append : {T S : Type 0} {unit : S} {op : S → S → S} → MonoidLaws unit op → (sum_of : T → S) (xs ys : List T)
    → total unit op sum_of (xs ++ ys) ≡ op (total unit op sum_of xs) (total unit op sum_of ys)
total-append laws sum_of [] ys = sym (laws.left_unit _)
total-append {op = op} laws sum_of (x ∷ xs) ys = ap (op (sum_of x)) (total-append laws sum_of xs ys) ∙ sym (laws.assoc _ _ _)

-- the join of two sums is that of the list
pub sum_joined : {T S : Type 0} {unit : S} {op : S → S → S} → MonoidLaws unit op → (sum_of : T → S) (xs ys : List T) (s t : S)
    → s ≡ total unit op sum_of xs → t ≡ total unit op sum_of ys → op s t ≡ total unit op sum_of (xs ++ ys)
sum_joined laws sum_of xs ys s t p q = let e = total-append laws sum_of xs ys in cc

-- the whole list is a run
pub whole_fits : {T S : Type 0} (fits : S → Type 0) (unit : S) (op : S → S → S) (sum_of : T → S) (xs : List T)
    → AllRunsFit fits unit op sum_of xs → fits (total unit op sum_of xs)
whole_fits fits unit op sum_of xs h = h [] xs [] (append-nil xs)

-- what fits as one list fits as an equal one
pub summable_as : {T S : Type 0} {fits : S → Type 0} {unit : S} {op : S → S → S} {sum_of : T → S} {xs ys : List T} → xs ≡ ys
    → IsSummable fits unit op sum_of xs → IsSummable fits unit op sum_of ys
summable_as {fits = fits} {unit = unit} {op = op} {sum_of = sum_of} e h = subst (IsSummable fits unit op sum_of) e h

module _ {T S : Type 0} {fits : S → Type 0} {unit : S} {op : S → S → S} (laws : MonoidLaws unit op) (sum_of : T → S) where
  -- two sums whose list fits can be joined
  pub join_fits : (r xs ys : List T) (s t : S) → r ≡ xs ++ ys → s ≡ total unit op sum_of xs → t ≡ total unit op sum_of ys
      → IsSummable fits unit op sum_of r → fits (op s t)
  join_fits r xs ys s t e p q h = subst fits (ap (total unit op sum_of) e ∙ sym (sum_joined laws sum_of xs ys s t p q)) h.fit

  pub summable_front : ((a b : S) → fits (op a b) → fits a) → (r xs ys : List T) → r ≡ xs ++ ys → IsSummable fits unit op sum_of r
      → IsSummable fits unit op sum_of xs
  summable_front left r xs ys e h = record {
    fit = left _ _ (join_fits r xs ys _ _ e refl refl h);
    short = let n = ap length e in omega (arith, h.short, length-append xs ys);
  }

  pub summable_back : ((a b : S) → fits (op a b) → fits b) → (r xs ys : List T) → r ≡ xs ++ ys → IsSummable fits unit op sum_of r
      → IsSummable fits unit op sum_of ys
  summable_back right r xs ys e h = record {
    fit = right _ _ (join_fits r xs ys _ _ e refl refl h);
    short = let n = ap length e in omega (arith, h.short, length-append xs ys);
  }

  -- a list can be summed where its runs fit
  pub summable_runs : (xs ys : List T) → xs ≡ ys → AllRunsFit fits unit op sum_of xs → length xs < 2 ^ 32 → IsSummable fits unit op sum_of ys
  summable_runs xs ys e runs short = summable_as e (record { fit = whole_fits fits unit op sum_of xs runs; short = short })

  -- all runs of a list fit where the whole list does
  pub runs_fit : ((a b : S) → fits (op a b) → fits a) → ((a b : S) → fits (op a b) → fits b) → (xs : List T)
      → fits (total unit op sum_of xs) → AllRunsFit fits unit op sum_of xs
  runs_fit left right xs h = λ front run back e.
      let whole = subst fits (ap (total unit op sum_of) (sym e) ∙ total-append laws sum_of front (run ++ back)) h in
      left _ _ (subst fits (total-append laws sum_of run back) (right _ _ whole))
