-- Numbers of a text, by its bytes and in parts.
use Rattle.std.proofs.Common.{◌≡◌, refl, sym, ap, ◌∙◌, ℕ, suc, ◌+◌, ◌-◌, ◌<◌, ◌≤◌, inl, inr, Bool, true, false, ◌==◌, ◌||◌, ◌&&◌, List, [], ◌∷◌, ◌++◌}
use Rattle.std.proofs.Common.{if◌then◌else◌, not, length, get_or, arith, count_by, length-append, append-nil, cond}
use Rattle.std.proofs.Math.Utf8.{encode, encodes, scalar, scalars}
use Rattle.std.proofs.lemmas.{Bool.and_parts, Bool.cases_lt, Bool.Decides.nat_tests, Str.chars-encodes, Str.encode_ascii, Str.encodes-chars, Str.scalars-chars}
use Rattle.std.proofs.lemmas.List.Sums.{sum_by-append}
use Rattle.std.specs.Str.{chars, IsUtf8}
use Rattle.lane_ascii.specs.{Leads.leads, Leads.one_lead, Marks.cr, Marks.ends_cr, Marks.is_mark, Marks.lf, Marks.marks, Marks.one_if}
use Rattle.lemmas.proofs.{Recursion.counts-append, Recursion.sum-append, Recursion.walk-append, Texts.high_bytes, Texts.high_other}
use Rattle.streams.specs.declared.counts.Counts.{Counts}
use Rattle.streams.specs.Counting.{column_on, count_of, counted, is_end, no_counts, pairs}

pub count-cons : (x c : ℕ) (cs : List ℕ) → count_of x (c ∷ cs) ≡ one_if (c == x) + count_of x cs
count-cons x c cs = sum_by-append (λ (d : ℕ). cond (d == x) 1 0) (c ∷ []) cs ∙ omega arith

-- ---- line ends by kind

one-way : (b c f : Bool) → (b ≡ true → c ≡ true → ⊥) → one_if (b || (c && not f)) + one_if (f && c) ≡ one_if b + one_if c
one-way true true f none = absurd (none refl refl)
one-way true false true none = refl
one-way true false false none = refl
one-way false true true none = refl
one-way false true false none = refl
one-way false false true none = refl
one-way false false false none = refl

both : (c : ℕ) → (c == cr) ≡ true → (c == lf) ≡ true → ⊥
both c h l = grind (arith, nat_tests)

-- each CR is a line end, and each LF is one or follows a CR
pub ends-split : (f : Bool) (cs : List ℕ) → marks f cs + pairs f cs ≡ count_of cr cs + count_of lf cs
ends-split f [] = refl
ends-split f (c ∷ cs) =
    let way : one_if (is_mark f c) + one_if (f && (c == lf)) ≡ one_if (c == cr) + one_if (c == lf) = one-way (c == cr) (c == lf) f (both c) in
    omega (arith, way, ends-split (c == cr) cs, count-cons cr c cs, count-cons lf c cs)

few-lf : (f b : Bool) → one_if (f && b) ≤ one_if b
few-lf true true = omega arith
few-lf true false = omega arith
few-lf false true = omega arith
few-lf false false = omega arith

pub pairs-lf : (f : Bool) (cs : List ℕ) → pairs f cs ≤ count_of lf cs
pairs-lf f [] = omega arith
pairs-lf f (c ∷ cs) = omega (arith, few-lf f (c == lf), pairs-lf (c == cr) cs, count-cons lf c cs)

pub pairs-are : (f : Bool) (cs : List ℕ) (lines crs : ℕ) → lines ≡ marks f cs → crs ≡ count_of cr cs → count_of lf cs - (lines - crs) ≡ pairs f cs
pairs-are f cs lines crs is are = omega (arith, ends-split f cs, pairs-lf f cs, is, are)

no-pair : (b : Bool) (cs : List ℕ) → one_if b + count_of cr cs ≡ 0 → (count_of cr cs ≡ 0 → pairs false cs ≡ 0) → pairs b cs ≡ 0
no-pair true cs none more = absurd (omega (arith, none))
no-pair false cs none more = more (omega (arith, none))

pub no-pairs : (cs : List ℕ) → count_of cr cs ≡ 0 → pairs false cs ≡ 0
no-pairs [] none = refl
no-pairs (c ∷ cs) none = omega (arith, no-pair (c == cr) cs (sym (count-cons cr c cs) ∙ none) (no-pairs cs))

-- ---- columns

flat-step : (b c f : Bool) (n : ℕ) (cs : List ℕ) → one_if (b || (c && not f)) + marks b cs ≡ 0 → one_if (f && c) + pairs b cs ≡ 0
    → ((m : ℕ) → marks false cs ≡ 0 → pairs false cs ≡ 0 → column_on m cs ≡ m + length cs)
    → (if b || c then column_on 0 cs else column_on (n + 1) cs) ≡ n + suc (length cs)
flat-step true c f n cs lines pair more = absurd (omega (arith, lines))
flat-step false true true n cs lines pair more = absurd (omega (arith, pair))
flat-step false true false n cs lines pair more = absurd (omega (arith, lines))
flat-step false false true n cs lines pair more = omega (arith, more (n + 1) (omega (arith, lines)) (omega (arith, pair)))
flat-step false false false n cs lines pair more = omega (arith, more (n + 1) (omega (arith, lines)) (omega (arith, pair)))

-- a text without a line end goes on with its line
pub flat : (f : Bool) (n : ℕ) (cs : List ℕ) → marks f cs ≡ 0 → pairs f cs ≡ 0 → column_on n cs ≡ n + length cs
flat f n [] lines pair = omega arith
flat f n (c ∷ cs) lines pair = flat-step (c == cr) (c == lf) f n cs lines pair (λ m l p. flat false m cs l p)

-- the same over bytes, of which those that begin a code point count
abbrev pub column_in : ℕ → List ℕ → ℕ
column_in n [] = n
column_in n (b ∷ bs) = if is_end b then column_in 0 bs else column_in (n + one_lead b) bs

last-step : (e last : Bool) (p q u v w : ℕ) → p ≡ (if last then 0 else u + w) → q ≡ (if last then 0 else v + w)
    → (if e then p else q) ≡ (if last then 0 else (if e then u else v) + w)
last-step true last p q u v w here there = here
last-step false last p q u v w here there = there

-- a byte more
pub column-last : (bs : List ℕ) (n b : ℕ) → column_in n (bs ++ b ∷ []) ≡ (if is_end b then 0 else column_in n bs + one_lead b)
column-last [] n b = refl
column-last (x ∷ bs) n b =
    last-step (is_end x) (is_end b) _ _ (column_in 0 bs) (column_in (n + one_lead x) bs) (one_lead b)
    (column-last bs 0 b) (column-last bs (n + one_lead x) b)

high_end : (x : ℕ) → 128 ≤ x → is_end x ≡ false
high_end x h = grind (arith, nat_tests)

-- bytes that aren't ASCII go on with the line
high-column : (n : ℕ) (bs rest : List ℕ) → ((k : ℕ) → k < length bs → 128 ≤ get_or bs k 0) → column_in n (bs ++ rest) ≡ column_in (n + leads bs) rest
high-column n [] rest h = let same : n ≡ n + 0 = omega arith in ap (λ (m : ℕ). column_in m rest) same
high-column n (x ∷ xs) rest h =
    let first : 0 < length (x ∷ xs) = omega arith in
    let same : n + one_lead x + leads xs ≡ n + (one_lead x + leads xs) = omega arith in
    ap (λ (e : Bool). if e then column_in 0 (xs ++ rest) else column_in (n + one_lead x) (xs ++ rest)) (high_end x (h 0 first))
    ∙ high-column (n + one_lead x) xs rest (λ k l. h (suc k) (omega (arith, l))) ∙ ap (λ (m : ℕ). column_in m rest) same

abbrev pub Leads : Type 0
Leads = (bytes : List ℕ) → IsUtf8 bytes → leads bytes ≡ length (chars bytes)

low-lead : (c : ℕ) → c < 128 → one_lead c ≡ 1
low-lead c h = grind (arith, nat_tests)

module _ (law : Leads) where
  one-char : (c : ℕ) → scalar c ≡ true → leads (encode c) ≡ 1
  one-char c valid =
      let all : scalars (c ∷ []) ≡ true = rw valid refl in
      ap leads (sym (append-nil (encode c))) ∙ law (encodes (c ∷ [])) (c ∷ [], (all, refl)) ∙ ap length (chars-encodes (c ∷ []) all)

  column-code : (n c : ℕ) (rest : List ℕ) → scalar c ≡ true
      → column_in n (encode c ++ rest) ≡ (if is_end c then column_in 0 rest else column_in (n + 1) rest)
  column-code n c rest valid =
      elim (cases_lt c 128) [
        | inl h ↦ ap (λ (t : List ℕ). column_in n (t ++ rest)) (encode_ascii c h)
            ∙ ap (λ (m : ℕ). if is_end c then column_in 0 rest else column_in (n + m) rest) (low-lead c h)
        | inr h ↦ high-column n (encode c) rest (high_bytes c h) ∙ ap (λ (m : ℕ). column_in (n + m) rest) (one-char c valid)
            ∙ sym (ap (λ (e : Bool). if e then column_in 0 rest else column_in (n + 1) rest) (high_end c h))
      ]

  column-codes : (n : ℕ) (cs : List ℕ) → scalars cs ≡ true → column_in n (encodes cs) ≡ column_on n cs
  column-codes n [] valid = refl
  column-codes n (c ∷ cs) valid =
      let w = and_parts (scalar c) (scalars cs) valid in
      column-code n c (encodes cs) w.0
      ∙ ap (λ (m : ℕ). if is_end c then m else column_in (n + 1) (encodes cs)) (column-codes 0 cs w.1)
      ∙ ap (λ (m : ℕ). if is_end c then column_on 0 cs else m) (column-codes (n + 1) cs w.1)

  pub column-bytes : (n : ℕ) (bs : List ℕ) → IsUtf8 bs → column_in n bs ≡ column_on n (chars bs)
  column-bytes n bs valid = ap (column_in n) (sym (encodes-chars bs valid)) ∙ column-codes n (chars bs) (scalars-chars bs valid)

-- ---- how often a byte of ASCII is in a text

high-count : (x : ℕ) → x < 128 → (bs : List ℕ) → ((k : ℕ) → k < length bs → 128 ≤ get_or bs k 0) → count_of x bs ≡ 0
high-count x low [] h = refl
high-count x low (b ∷ bs) h =
    let first : 0 < length (b ∷ bs) = omega arith in
    let rest = high-count x low bs (λ k l. h (suc k) (omega (arith, l))) in
    omega (arith, count-cons x b bs, ap one_if (high_other x b low (h 0 first)), rest)

count-code : (x c : ℕ) → x < 128 → count_of x (encode c) ≡ one_if (c == x)
count-code x c low =
    elim (cases_lt c 128) [
      | inl h ↦ ap (count_of x) (encode_ascii c h) ∙ count-cons x c [] ∙ omega arith
      | inr h ↦ high-count x low (encode c) (high_bytes c h) ∙ sym (ap one_if (high_other x c low h))
    ]

count-codes : (x : ℕ) → x < 128 → (cs : List ℕ) → count_of x (encodes cs) ≡ count_of x cs
count-codes x low [] = refl
count-codes x low (c ∷ cs) =
    sum-append (count_of x) (λ (d : ℕ). one_if (d == x)) refl (λ d ds. count-cons x d ds) (encode c) (encodes cs)
    ∙ omega (arith, count-code x c low, count-codes x low cs, count-cons x c cs)

pub count-bytes : (x : ℕ) → x < 128 → (bs : List ℕ) → IsUtf8 bs → count_of x bs ≡ count_of x (chars bs)
count-bytes x low bs valid = ap (count_of x) (sym (encodes-chars bs valid)) ∙ count-codes x low (chars bs)

-- ---- a text in parts

column-more : (e : Bool) (n : ℕ) (cs : List ℕ) → (if e then column_on 0 cs else column_on (n + 1) cs) ≡ column_on (if e then 0 else n + 1) cs
column-more true n cs = refl
column-more false n cs = refl

abbrev pub made : ℕ → ℕ → ℕ → ℕ → ℕ → Bool → Counts
made characters lines crs pairs column after_cr =
    record { characters = characters; lines = lines; crs = crs; pairs = pairs; column = column; after_cr = after_cr }

pub made-same : (h i l m c d p q n o : ℕ) (a b : Bool) → h ≡ i → l ≡ m → c ≡ d → p ≡ q → n ≡ o → a ≡ b → made h l c p n a ≡ made i m d q o b
made-same h i l m c d p q n o a b eh el ec ep en ea = rw (eh, el, ec, ep, en, ea) refl

pub counted-append : (c : Counts) (xs ys : List ℕ) → counted (counted c xs) ys ≡ counted c (xs ++ ys)
counted-append c xs ys =
    let ends = walk-append ends_cr (λ f x. x == cr) (λ _. refl) (λ _ _ _. refl) c.after_cr xs ys in
    let lines = counts-append marks (λ f x. one_if (is_mark f x)) (λ f x. x == cr) (λ _. refl) (λ _ _ _. refl) ends_cr (λ _. refl) (λ _ _ _. refl)
    c.after_cr xs ys in
    let both = counts-append pairs (λ f x. one_if (f && (x == lf))) (λ f x. x == cr) (λ _. refl) (λ _ _ _. refl) ends_cr (λ _. refl) (λ _ _ _. refl)
    c.after_cr xs ys in
    let crs = sum-append (count_of cr) (λ (d : ℕ). one_if (d == cr)) refl (λ d ds. count-cons cr d ds) xs ys in
    let column = walk-append column_on (λ n x. if is_end x then 0 else n + 1) (λ _. refl) (λ n x zs. column-more (is_end x) n zs) c.column xs ys in
    made-same _ _ _ _ _ _ _ _ _ _ _ _ (omega (arith, length-append xs ys)) (omega (arith, lines)) (omega (arith, crs)) (omega (arith, both)) (sym column)
    (sym ends)

pub first-line : (before : List ℕ) → (counted no_counts before).lines ≡ marks false before
first-line before = omega arith

-- where a text has no line end, none of its code points is left out of the column
plain-step : (b c : Bool) (n : ℕ) (cs : List ℕ) → one_if (b || (c && not false)) + marks b cs ≡ 0
    → ((m : ℕ) → marks false cs ≡ 0 → m ≤ column_on m cs) → n + 1 ≤ (if b || c then column_on 0 cs else column_on (n + 1) cs)
plain-step true c n cs lines more = absurd (omega (arith, lines))
plain-step false true n cs lines more = absurd (omega (arith, lines))
plain-step false false n cs lines more = more (n + 1) (omega (arith, lines))

column-grows : (n : ℕ) (cs : List ℕ) → marks false cs ≡ 0 → n ≤ column_on n cs
column-grows n [] lines = omega arith
column-grows n (c ∷ cs) lines =
    let more = plain-step (c == cr) (c == lf) n cs lines (λ m l. column-grows m cs l) in omega (arith, more)

-- a position at the start of all lines is that of no text
pub at-start : (c : ℕ) (cs : List ℕ) → marks false (c ∷ cs) ≡ 0 → column_on 0 (c ∷ cs) ≡ 0 → ⊥
at-start c cs lines column =
    let more = plain-step (c == cr) (c == lf) 0 cs lines (λ m l. column-grows m cs l) in absurd (omega (arith, more, column))
