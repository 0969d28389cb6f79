-- Proofs that a trait asks for; there is nothing to believe here. Sums join as a monoid, and axes measure them.
use Rattle.std.specs.Prelude.{◌≡◌, ℕ, ◌+◌, ◌-◌, ◌≤◌, Bool, true, false, ◌&&◌, ◌==◌, if◌then◌else◌}
use Rattle.std.proofs.Common.{arith, refl, cond, ap, sym, subst, ◌∙◌}
use Rattle.std.proofs.{Props.props, lemmas.Bool.Decides.nat_tests}
use Rattle.lane_ascii.specs.Marks.{one_if}
use Rattle.sum_tree.specs.Sums.{MonoidLaws}
use Rattle.state_memo.specs.declared.sum.Sum.{Sum}
use Rattle.state_memo.specs.declared.axis.Axis.{Axis, TheVariants.Byte, TheVariants.Scalar, TheVariants.Utf16, TheVariants.Utf8, TheVariants.Mark}
use Rattle.state_memo.specs.Sums.{joined, no_sum, Fits, measure}

implies_prop : (b : Bool) (n : ℕ) → IsProp (b ≡ true → 1 ≤ n)
implies_prop b n = hlevel props

le_prop : (m n : ℕ) → IsProp (m ≤ n)
le_prop m n = hlevel props

abbrev pub Numbers : Type 0
Numbers = ℕ × ℕ × ℕ × ℕ × ℕ × ℕ × Bool × Bool

abbrev Is : Sum → Numbers → Type 0
Is x (bytes, scalars, utf16, utf8, errors, marks, lf, cr) =
    (p : lf ≡ true → 1 ≤ marks) (q : cr ≡ true → 1 ≤ marks) (r : marks ≤ scalars) (s : scalars ≤ utf8) (t : utf16 ≤ utf8) → x ≡ record {
      bytes = bytes;
      scalars = scalars;
      utf16 = utf16;
      utf8 = utf8;
      errors = errors;
      marks = marks;
      lf_first = lf;
      cr_last = cr;
      lf_counts = p;
      cr_counts = q;
      few_marks = r;
      few_scalars = s;
      few_utf16 = t;
    }

abbrev pub numbers : Sum → Numbers
numbers x = (x.bytes, x.scalars, x.utf16, x.utf8, x.errors, x.marks, x.lf_first, x.cr_last)

own : (x : Sum) → Is x (numbers x)
own x p q r s t = λ i. record {
  bytes = x.bytes;
  scalars = x.scalars;
  utf16 = x.utf16;
  utf8 = x.utf8;
  errors = x.errors;
  marks = x.marks;
  lf_first = x.lf_first;
  cr_last = x.cr_last;
  lf_counts = implies_prop x.lf_first x.marks x.lf_counts p i;
  cr_counts = implies_prop x.cr_last x.marks x.cr_counts q i;
  few_marks = le_prop x.marks x.scalars x.few_marks r i;
  few_scalars = le_prop x.scalars x.utf8 x.few_scalars s i;
  few_utf16 = le_prop x.utf16 x.utf8 x.few_utf16 t i;
}

pub same_sum : (x y : Sum) → numbers x ≡ numbers y → x ≡ y
same_sum x y e = subst (Is x) e (own x) y.lf_counts y.cr_counts y.few_marks y.few_scalars y.few_utf16

abbrev tuple : ℕ → ℕ → ℕ → ℕ → ℕ → ℕ → Bool → Bool → Numbers
tuple a b c d e f g h = (a, b, c, d, e, f, g, h)

pub same_by : (x y : Sum) → x.bytes ≡ y.bytes → x.scalars ≡ y.scalars → x.utf16 ≡ y.utf16 → x.utf8 ≡ y.utf8 → x.errors ≡ y.errors
    → x.marks ≡ y.marks → x.lf_first ≡ y.lf_first → x.cr_last ≡ y.cr_last → x ≡ y
same_by x y a b c d e f g h = same_sum x y (λ i. tuple (a i) (b i) (c i) (d i) (e i) (f i) (g i) (h i))

-- a flag needs a code point
needs : (b : Bool) (marks scalars : ℕ) → (b ≡ true → 1 ≤ marks) → marks ≤ scalars → scalars ≡ 0 → b ≡ false
needs true m s p q e = absurd (Prim.omega (arith, p refl, q, e))
needs false m s p q e = refl

no-lf : (a : Sum) → a.scalars ≡ 0 → a.lf_first ≡ false
no-lf a e = needs a.lf_first a.marks a.scalars a.lf_counts a.few_marks e

no-cr : (a : Sum) → a.scalars ≡ 0 → a.cr_last ≡ false
no-cr a e = needs a.cr_last a.marks a.scalars a.cr_counts a.few_marks e

is_zero : (n : ℕ) → (n == 0) ≡ true → n ≡ 0
is_zero n e = Prim.grind (arith, nat_tests)

or_false : (n : ℕ) (b : Bool) → (n ≡ 0 → b ≡ false) → (if n == 0 then false else b) ≡ b
or_false n b p = by_test (n == 0) (λ e. p (is_zero n e))
  where
    by_test : (t : Bool) → (t ≡ true → b ≡ false) → cond t false b ≡ b
    by_test true q = sym (q refl)
    by_test false q = refl

and_false : (b : Bool) → one_if (b && false) ≡ 0
and_false true = refl
and_false false = refl

left_unit : (a : Sum) → joined no_sum a ≡ a
left_unit a = same_by (joined no_sum a) a (Prim.omega arith) (Prim.omega arith) (Prim.omega arith) (Prim.omega arith) (Prim.omega arith)
    (Prim.omega arith) refl (or_false a.scalars a.cr_last (no-cr a))

right_unit : (a : Sum) → joined a no_sum ≡ a
right_unit a =
    same_by (joined a no_sum) a (Prim.omega arith) (Prim.omega arith) (Prim.omega arith) (Prim.omega arith) (Prim.omega arith)
    (Prim.omega (arith, and_false a.cr_last)) (or_false a.scalars a.lf_first (no-lf a)) refl

zero_sum : (m n : ℕ) → (m + n == 0) ≡ ((m == 0) && (n == 0))
zero_sum m n = Prim.grind (arith, nat_tests)

first_flag : (m n : ℕ) (a b c : Bool) → (if m + n == 0 then c else (if m == 0 then b else a)) ≡ (if m == 0 then (if n == 0 then c else b) else a)
first_flag m n a b c = ap (λ t. cond t c (cond (m == 0) b a)) (zero_sum m n) ∙ by_tests (m == 0) (n == 0)
  where
    by_tests : (x y : Bool) → cond (x && y) c (cond x b a) ≡ cond x (cond y c b) a
    by_tests true true = refl
    by_tests true false = refl
    by_tests false y = refl

last_flag : (m n : ℕ) (a b c : Bool) → (if n == 0 then (if m == 0 then a else b) else c) ≡ (if m + n == 0 then a else (if n == 0 then b else c))
last_flag m n a b c = by_tests (m == 0) (n == 0) ∙ ap (λ t. cond t a (cond (n == 0) b c)) (sym (zero_sum m n))
  where
    by_tests : (x y : Bool) → cond y (cond x a b) c ≡ cond (x && y) a (cond y b c)
    by_tests true true = refl
    by_tests true false = refl
    by_tests false true = refl
    by_tests false false = refl

-- the marks where three parts meet; z: the middle one is empty
three_marks : (z ac bl bc cl : Bool) (x y w : ℕ) → (z ≡ true → (bl ≡ false) × (bc ≡ false)) → (z ≡ true → y ≡ 0)
    → (ac ≡ true → 1 ≤ x) → (bl ≡ true → 1 ≤ y) → (bc ≡ true → 1 ≤ y) → (cl ≡ true → 1 ≤ w)
    → (x + y - one_if (ac && bl)) + w - one_if (cond z ac bc && cl) ≡ x + (y + w - one_if (bc && cl)) - one_if (ac && cond z cl bl)
three_marks true ac true bc cl x y w e f p q r s = absurd (Prim.cc (e refl).0)
three_marks true ac false true cl x y w e f p q r s = absurd (Prim.cc (e refl).1)
three_marks true true false false true x y w e f p q r s = Prim.omega (arith, f refl, p refl, s refl)
three_marks true true false false false x y w e f p q r s = Prim.omega (arith, f refl)
three_marks true false false false true x y w e f p q r s = Prim.omega (arith, f refl)
three_marks true false false false false x y w e f p q r s = Prim.omega (arith, f refl)
three_marks false true true true true x y w e f p q r s = Prim.omega (arith, p refl, q refl, s refl)
three_marks false true true true false x y w e f p q r s = Prim.omega (arith, p refl, q refl)
three_marks false true true false true x y w e f p q r s = Prim.omega (arith, p refl, q refl)
three_marks false true true false false x y w e f p q r s = Prim.omega (arith, p refl, q refl)
three_marks false true false true true x y w e f p q r s = Prim.omega (arith, r refl, s refl)
three_marks false true false true false x y w e f p q r s = Prim.omega arith
three_marks false true false false cl x y w e f p q r s = Prim.omega arith
three_marks false false bl true true x y w e f p q r s = Prim.omega (arith, r refl, s refl)
three_marks false false bl true false x y w e f p q r s = Prim.omega arith
three_marks false false bl false cl x y w e f p q r s = Prim.omega arith

assoc : (a b c : Sum) → joined (joined a b) c ≡ joined a (joined b c)
assoc a b c =
    same_by (joined (joined a b) c) (joined a (joined b c)) (Prim.omega arith) (Prim.omega arith) (Prim.omega arith) (Prim.omega arith) (Prim.omega arith)
    (three_marks (b.scalars == 0) a.cr_last b.lf_first b.cr_last c.lf_first a.marks b.marks c.marks
    (λ e. (no-lf b (is_zero b.scalars e), no-cr b (is_zero b.scalars e))) (λ e. Prim.omega (arith, b.few_marks, is_zero b.scalars e))
    a.cr_counts b.lf_counts b.cr_counts c.lf_counts)
    (first_flag a.scalars b.scalars a.lf_first b.lf_first c.lf_first)
    (last_flag b.scalars c.scalars a.cr_last b.cr_last c.cr_last)

pub law_sums : MonoidLaws no_sum joined
law_sums = record { left_unit = left_unit; right_unit = right_unit; assoc = assoc }

pub no_sum-fits : Fits no_sum
no_sum-fits = record { bytes = Prim.omega arith; utf8 = Prim.omega arith; errors = Prim.omega arith }

pub fits-left : (a b : Sum) → Fits (joined a b) → Fits a
fits-left a b f = record { bytes = Prim.omega (arith, f.bytes); utf8 = Prim.omega (arith, f.utf8); errors = Prim.omega (arith, f.errors) }

pub fits-right : (a b : Sum) → Fits (joined a b) → Fits b
fits-right a b f = record { bytes = Prim.omega (arith, f.bytes); utf8 = Prim.omega (arith, f.utf8); errors = Prim.omega (arith, f.errors) }

marks_more : (c l : Bool) (x y : ℕ) → (l ≡ true → 1 ≤ y) → x ≤ x + y - one_if (c && l)
marks_more true true x y p = Prim.omega (arith, p refl)
marks_more true false x y p = Prim.omega arith
marks_more false l x y p = Prim.omega arith

pub measure-more : (d : Axis) (a b : Sum) → measure d a ≤ measure d (joined a b)
measure-more Byte a b = Prim.omega arith
measure-more Scalar a b = Prim.omega arith
measure-more Utf16 a b = Prim.omega arith
measure-more Utf8 a b = Prim.omega arith
measure-more Mark a b = marks_more a.cr_last b.lf_first a.marks b.marks b.lf_counts

pub measure-zero : (d : Axis) → measure d no_sum ≡ 0
measure-zero Byte = refl
measure-zero Scalar = refl
measure-zero Utf16 = refl
measure-zero Utf8 = refl
measure-zero Mark = refl
