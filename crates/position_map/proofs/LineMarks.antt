-- Lines by marks.
use Rattle.std.proofs.Common.{ℕ, ◌≡◌, refl, sym, ap, ◌∙◌, zero, suc, ◌+◌, ◌<◌, ◌≤◌, Bool, true, false, cond, ◌==◌, ◌&&◌, List, [], ◌∷◌, ◌++◌, length}
use Rattle.std.proofs.Common.{append-nil, append_assoc, arith, Option, Some, None, nat_le, count_by}
use Rattle.lemmas.proofs.Recursion.{counts-append, walk-append}
use Rattle.position_map.proofs.Words.{slice_get, option_map, add_assoc, zero-add, unary_clauses, nat_tests, sum_by-cons, LineSpan, lines_from, lines_of, cr, lf}
use Rattle.position_map.proofs.Words.{is_mark, one_if, marks, ends_cr, begins_lf, IsMark, start_of, end_of, by_test, same_some, none_some}

abbrev pub line : ℕ → ℕ → LineSpan
line start end = record { start = start; end = end }

abbrev more_if : Bool → LineSpan → List LineSpan → List LineSpan
more_if b l ls = cond b (l ∷ ls) ls

-- the start of the line that continues after a code point
abbrev start_past : ℕ → ℕ → ℕ → ℕ
start_past s n c = cond (is_mark false c) (n + 1) s

-- the lines, one code point at a time
abbrev lines_after : Bool → ℕ → ℕ → List ℕ → List LineSpan
lines_after f s n [] = line s n ∷ []
lines_after f s n (c ∷ cs) = more_if (is_mark f c) (line s n) (lines_after (c == cr) (start_past s n c) (n + 1) cs)

lines_same : (s n : ℕ) (text : List ℕ) → lines_from s n text ≡ lines_after false s n text
lines_same s n [] = refl
lines_same s n (c ∷ []) = by_test (c == cr) (λ x. rw x refl) (λ x. by_test (c == lf) (λ y. rw (x, y) refl) (λ y. rw (x, y) refl))
lines_same s n (c ∷ d ∷ rest) =
    let one = lines_same (n + 1) (n + 1) (d ∷ rest) in
    by_test (c == cr)
    (λ x. by_test (d == lf)
    (λ z. let h : d ≡ 10 = grind (arith, nat_tests) in
    let m : n + 2 ≡ n + 1 + 1 = omega arith in
    rw (x, h, lines_same (n + 2) (n + 2) rest, m) refl)
    (λ z. rw (x, z, one, z) refl))
    (λ x. by_test (c == lf) (λ y. rw (x, y, one) refl) (λ y. rw (x, y, lines_same s (n + 1) (d ∷ rest)) refl))

-- where the line starts on which a text ends
abbrev start_in : ℕ → ℕ → List ℕ → ℕ
start_in s n [] = s
start_in s n (c ∷ cs) = start_in (start_past s n c) (n + 1) cs

get_more : (b : Bool) (l : LineSpan) (ls : List LineSpan) (k : ℕ) → slice_get (more_if b l ls) (one_if b + k) ≡ slice_get ls k
get_more true l ls k = let e : 1 + k ≡ suc k = omega arith in ap (slice_get (l ∷ ls)) e
get_more false l ls k = simp zero-add

-- the lines after those that end in front
lines_behind : (f : Bool) (s n : ℕ) (front back : List ℕ) (k : ℕ) → slice_get (lines_after f s n (front ++ back)) (marks f front + k)
    ≡ slice_get (lines_after (ends_cr f front) (start_in s n front) (n + length front) back) k
lines_behind f s n [] back k = simp (zero-add, unary_clauses)
lines_behind f s n (c ∷ cs) back k =
    let here = get_more (is_mark f c) (line s n) (lines_after (c == cr) (start_past s n c) (n + 1) (cs ++ back)) (marks (c == cr) cs + k) in
    let at : n + 1 + length cs ≡ n + length (c ∷ cs) = omega arith in
    let rest = lines_behind (c == cr) (start_past s n c) (n + 1) cs back k in
    simp add_assoc (here ∙ (rw at at rest))

-- the lines if a mark is first, or none
by_mark : (f : Bool) (s n c : ℕ) (cs : List ℕ) → is_mark f c ≡ true → lines_after f s n (c ∷ cs) ≡ line s n ∷ lines_after (c == cr) (n + 1) (n + 1) cs
by_mark f s n c cs h = let m : is_mark false c ≡ true = grind (arith, nat_tests) in rw (h, m) refl

by_none : (f : Bool) (s n c : ℕ) (cs : List ℕ) → is_mark f c ≡ false
    → lines_after f s n (c ∷ cs) ≡ lines_after false (cond (f && (c == lf)) (n + 1) s) (n + 1) cs
by_none true s n c cs h = let x : (c == cr) ≡ false = grind (arith, nat_tests) in by_test (c == lf) (λ y. rw (x, y) refl) (λ y. rw (x, y) refl)
by_none false s n c cs h =
    let x : (c == cr) ≡ false = grind (arith, nat_tests) in let y : (c == lf) ≡ false = grind (arith, nat_tests) in rw (x, y) refl

-- the line begins at its start, or after the LF of a CR LF
first_start_after : (f : Bool) (s n : ℕ) (text : List ℕ) → option_map start_of (slice_get (lines_after f s n text) 0)
    ≡ Some (cond (f && begins_lf text) (n + 1) s)
first_start_after true s n [] = refl
first_start_after false s n [] = refl
first_start_after f s n (c ∷ cs) =
    by_test (is_mark f c)
    (λ h. let apart : (f && (c == lf)) ≡ false = grind (arith, nat_tests) in rw (by_mark f s n c cs h, apart) refl)
    (λ h. rw (by_none f s n c cs h) (first_start_after false (cond (f && (c == lf)) (n + 1) s) (n + 1) cs))

-- a line ends at its mark, and the next one begins after its line end
line_at_mark : (f : Bool) (s n : ℕ) (front : List ℕ) (c : ℕ) (back : List ℕ) → is_mark (ends_cr f front) c ≡ true
    → slice_get (lines_after f s n (front ++ c ∷ back)) (marks f front) ≡ Some (line (start_in s n front) (n + length front))
line_at_mark f s n front c back h =
    ap (slice_get (lines_after f s n (front ++ c ∷ back))) (omega arith) ∙ lines_behind f s n front (c ∷ back) 0
    ∙ rw (by_mark (ends_cr f front) (start_in s n front) (n + length front) c back h) refl

-- there is one more line than there are marks
length_after : (f : Bool) (s n : ℕ) (text : List ℕ) → length (lines_after f s n text) ≡ marks f text + 1
length_after f s n [] = refl
length_after f s n (c ∷ cs) =
    let rest = length_after (c == cr) (start_past s n c) (n + 1) cs in
    by_test (is_mark f c) (λ m. rw m (omega (arith, rest))) (λ m. rw m (omega (arith, rest)))

-- the lines in their order up to `to`. The first one starts at `from` or after it, and ends at `at` or after it. Each one starts after the end of
-- the one before
abbrev pub Ascending : ℕ → ℕ → ℕ → List LineSpan → Type 0
Ascending from at to [] = Unit {0}
Ascending from at to (l ∷ ls) = (from ≤ l.start) × (l.start ≤ l.end) × (at ≤ l.end) × (l.end ≤ to) × Ascending (l.end + 1) (l.end + 1) to ls

weaker : (a b from at to : ℕ) (ls : List LineSpan) → from ≤ a → at ≤ b → Ascending a b to ls → Ascending from at to ls
weaker a b from at to [] h g w = tt
weaker a b from at to (l ∷ ls) h g w = (omega (arith, h, w.0), w.1, omega (arith, g, w.2), w.3, w.4)

ascend : (f : Bool) (s n to : ℕ) (text : List ℕ) → s ≤ n → n + length text ≤ to → Ascending s n to (lines_after f s n text)
ascend f s n to [] h g = (omega arith, h, omega arith, omega arith, tt)
ascend f s n to (c ∷ cs) h g =
    by_test (is_mark f c)
    (λ m. rw (by_mark f s n c cs m) (omega arith, h, omega arith, omega (arith, g), ascend (c == cr) (n + 1) (n + 1) to cs (omega arith) (omega (arith, g))))
    (λ m. let low : s ≤ cond (f && (c == lf)) (n + 1) s = grind (arith, nat_tests) in
    let high : cond (f && (c == lf)) (n + 1) s ≤ n + 1 = grind (arith, nat_tests) in
    rw (by_none f s n c cs m)
    (weaker _ (n + 1) s n to _ low (omega arith) (ascend false (cond (f && (c == lf)) (n + 1) s) (n + 1) to cs high (omega (arith, g)))))

pub ascending-line : (from at to : ℕ) (ls : List LineSpan) (k : ℕ) (l : LineSpan) → Ascending from at to ls → slice_get ls k ≡ Some l
    → (from ≤ l.start) × (l.start ≤ l.end) × (at ≤ l.end) × (l.end ≤ to)
ascending-line from at to [] k l w h = absurd (none_some h)
ascending-line from at to (x ∷ ls) zero l w h = let e : x ≡ l = same_some h in rw (← e) (w.0, w.1, w.2, w.3)
ascending-line from at to (x ∷ ls) (suc k) l w h =
    let r = ascending-line (x.end + 1) (x.end + 1) to ls k l w.4 h in
    (omega (arith, r.0, w.0, w.1), r.1, omega (arith, r.0, r.1, w.2), r.3)

abbrev pub begun : ℕ → List LineSpan → ℕ
begun offset ls = count_by (λ (l : LineSpan). nat_le l.start offset) ls

pub begun_not : (o : ℕ) (l : LineSpan) (ls : List LineSpan) → o < l.start → begun o (l ∷ ls) ≡ begun o ls
begun_not o l ls h =
    let t : nat_le l.start o ≡ false = grind (arith, nat_tests) in sum_by-cons (λ (l : LineSpan). cond (nat_le l.start o) 1 0) l ls ∙ rw t (simp zero-add)

pub begun_one : (o : ℕ) (l : LineSpan) (ls : List LineSpan) → l.start ≤ o → begun o (l ∷ ls) ≡ 1 + begun o ls
begun_one o l ls h =
    let t : nat_le l.start o ≡ true = grind (arith, nat_tests) in sum_by-cons (λ (l : LineSpan). cond (nat_le l.start o) 1 0) l ls ∙ rw t refl

-- no line that begins later has begun
pub none_begun : (o from at to : ℕ) (ls : List LineSpan) → Ascending from at to ls → o < from → begun o ls ≡ 0
none_begun o from at to [] w h = refl
none_begun o from at to (l ∷ ls) w h =
    begun_not o l ls (omega (arith, w.0)) ∙ none_begun o (l.end + 1) (l.end + 1) to ls w.4 (omega (arith, w.0, w.1))

begun_more : (o : ℕ) (b : Bool) (l : LineSpan) (ls : List LineSpan) → l.start ≤ o → begun o (more_if b l ls) ≡ one_if b + begun o ls
begun_more o true l ls h = begun_one o l ls h
begun_more o false l ls h = simp zero-add

-- one of the lines from here has begun, unless an LF of CR LF is here
one_begun : (f : Bool) (s n : ℕ) (text : List ℕ) → s ≤ n → begun n (lines_after f s n text) + one_if (f && begins_lf text) ≡ 1
one_begun f s n text h = of_lines (lines_after f s n text) (first_start_after f s n text) (ascend f s n (n + length text) text h (omega arith))
  where
    of_lines : (ls : List LineSpan) → option_map start_of (slice_get ls 0) ≡ Some (cond (f && begins_lf text) (n + 1) s)
        → Ascending s n (n + length text) ls → begun n ls + one_if (f && begins_lf text) ≡ 1
    of_lines [] e w = absurd (none_some e)
    of_lines (l ∷ ls) e w =
        let none = none_begun n (l.end + 1) (l.end + 1) (n + length text) ls w.4 (omega (arith, w.2)) in
        let start : l.start ≡ cond (f && begins_lf text) (n + 1) s = same_some e in
        by_test (f && begins_lf text)
        (λ t. let late : l.start ≡ n + 1 = rw t at start in omega (arith, begun_not n l ls (omega arith), none, ap one_if t))
        (λ t. let here : l.start ≡ s = rw t at start in omega (arith, begun_one n l ls (omega arith), none, ap one_if t))

start_in_le : (s n : ℕ) (cs : List ℕ) → s ≤ n → start_in s n cs ≤ n + length cs
start_in_le s n [] h = omega (arith, h)
start_in_le s n (c ∷ cs) h =
    let le : start_past s n c ≤ n + 1 = grind (arith, nat_tests) in omega (arith, start_in_le (start_past s n c) (n + 1) cs le)

-- the lines that have begun at an offset: as many as there are marks before it, and one, less one between CR and LF
begun_after : (f : Bool) (s n : ℕ) (front back : List ℕ) → s ≤ n
    → begun (n + length front) (lines_after f s n (front ++ back)) + one_if (ends_cr f front && begins_lf back) ≡ marks f front + 1
begun_after f s n [] back h = simp (zero-add, unary_clauses) (one_begun f s n back h)
begun_after f s n (c ∷ cs) back h =
    let le : start_past s n c ≤ n + 1 = grind (arith, nat_tests) in
    let e : n + length (c ∷ cs) ≡ n + 1 + length cs = omega arith in
    let behind = lines_after (c == cr) (start_past s n c) (n + 1) (cs ++ back) in
    let more = begun_more (n + 1 + length cs) (is_mark f c) (line s n) behind (omega (arith, h)) in
    rw e (omega (arith, begun_after (c == cr) (start_past s n c) (n + 1) cs back le, more))

-- joined texts
pub marks-append : (f : Bool) (xs ys : List ℕ) → marks f (xs ++ ys) ≡ marks f xs + marks (ends_cr f xs) ys
marks-append = counts-append marks _ _ (λ _. refl) (λ _ _ _. refl) ends_cr (λ _. refl) (λ _ _ _. refl)

pub ends_cr-append : (f : Bool) (xs ys : List ℕ) → ends_cr f (xs ++ ys) ≡ ends_cr (ends_cr f xs) ys
ends_cr-append = walk-append ends_cr _ (λ _. refl) (λ _ _ _. refl)

lines_are : (text : List ℕ) → lines_of text ≡ lines_after false 0 0 text
unfolding lines_of
lines_are text = lines_same 0 0 text

pub IsMark-end : (text : List ℕ) (n : ℕ) (front : List ℕ) (c : ℕ) (back : List ℕ) → IsMark text n front c back
    → option_map end_of (slice_get (lines_of text) n) ≡ Some (length front)
IsMark-end text n front c back m = rw (m.split, lines_are, ← m.count, line_at_mark false 0 0 front c back m.is) (simp zero-add)

-- the start of the line after the mark
abbrev pub behind : ℕ → ℕ → List ℕ → ℕ
behind at c back = cond ((c == cr) && begins_lf back) (at + 2) (at + 1)

pub IsMark-next : (text : List ℕ) (n : ℕ) (front : List ℕ) (c : ℕ) (back : List ℕ) → IsMark text n front c back
    → option_map start_of (slice_get (lines_of text) (n + 1)) ≡ Some (behind (length front) c back)
IsMark-next text n front c back m =
    rw (
      m.split,
      lines_are,
      ← m.count,
      lines_behind false 0 0 front (c ∷ back) 1,
      by_mark (ends_cr false front) (start_in 0 0 front) (0 + length front) c back m.is,
    )
    (first_start_after (c == cr) (0 + length front + 1) (0 + length front + 1) back ∙ simp (zero-add, add_assoc))

pub last_end : (text : List ℕ) → option_map end_of (slice_get (lines_of text) (marks false text)) ≡ Some (length text)
last_end text =
    let last = lines_behind false 0 0 text [] 0 in rw lines_are (ap (option_map end_of) (simp (append-nil, zero-add, unary_clauses) at last))

pub first_start : (text : List ℕ) → option_map start_of (slice_get (lines_of text) 0) ≡ Some 0
first_start text = rw lines_are (first_start_after false 0 0 text)

start_in-mark : (s n : ℕ) (front : List ℕ) (c : ℕ) → is_mark false c ≡ true → start_in s n (front ++ c ∷ []) ≡ n + length front + 1
start_in-mark s n [] c h = rw h (simp unary_clauses)
start_in-mark s n (x ∷ xs) c h = start_in-mark (start_past s n x) (n + 1) xs c h ∙ omega arith

pub line_begins : (front : List ℕ) (c : ℕ) (back : List ℕ) → is_mark false c ≡ true → ((c == cr) && begins_lf back) ≡ false
    → option_map start_of (slice_get (lines_of (front ++ c ∷ back)) (marks false (front ++ c ∷ []))) ≡ Some (length front + 1)
line_begins front c back h apart =
    let head = front ++ c ∷ [] in
    let first = first_start_after (ends_cr false head) (start_in 0 0 head) (0 + length head) back in
    let rest = lines_behind false 0 0 head back 0 in
    rw (lines_are, ← append_assoc front (c ∷ []) back)
    (ap (option_map start_of) (simp unary_clauses at rest) ∙ first
    ∙ rw (ends_cr-append false front (c ∷ []), apart, start_in-mark 0 0 front c h) (simp zero-add))

pub line_count : (text : List ℕ) → length (lines_of text) ≡ marks false text + 1
line_count text = rw lines_are (length_after false 0 0 text)

pub lines_begun : (front back : List ℕ) → begun (length front) (lines_of (front ++ back)) + one_if (ends_cr false front && begins_lf back)
    ≡ marks false front + 1
lines_begun front back = let all = begun_after false 0 0 front back (omega arith) in rw lines_are (simp zero-add at all)

-- a line by its two ends
pub line_is : (o : Option LineSpan) (s e : ℕ) → option_map start_of o ≡ Some s → option_map end_of o ≡ Some e → o ≡ Some (line s e)
line_is None s e h g = cc
line_is (Some l) s e h g = let a : l.start ≡ s = same_some h in let b : l.end ≡ e = same_some g in rw (← a, ← b) refl

pub ascending : (text : List ℕ) → Ascending 0 0 (length text) (lines_of text)
ascending text = rw lines_are (ascend false 0 0 (length text) text (omega arith) (omega arith))

pub line_here : (front back : List ℕ) → (ends_cr false front && begins_lf back) ≡ false → (l : LineSpan)
    → slice_get (lines_of (front ++ back)) (marks false front) ≡ Some l → (l.start ≤ length front) × (length front ≤ l.end)
line_here front back b l e =
    let here = lines_behind false 0 0 front back 0 in
    let f = ends_cr false front in
    let s = start_in 0 0 front in
    let n = 0 + length front in
    let le = start_in_le 0 0 front (omega arith) in
    let first : slice_get (lines_after f s n back) 0 ≡ Some l = sym (simp unary_clauses at here) ∙ (rw lines_are at e) in
    let start : l.start ≡ s = same_some (sym (ap (option_map start_of) first) ∙ first_start_after f s n back ∙ rw b refl) in
    let w = ascending-line s n (n + length back) (lines_after f s n back) 0 l (ascend f s n (n + length back) back le (omega arith)) first in
    (omega (arith, start, le), omega (arith, w.2))

-- a text that a CR ends
last_cr_after : (f : Bool) (x : ℕ) (xs : List ℕ) → ends_cr f (x ∷ xs) ≡ true → (start : List ℕ) × (x ∷ xs ≡ start ++ cr ∷ [])
last_cr_after f x [] e = let same : x ≡ 13 = grind (arith, nat_tests) in ([], ap (λ v. v ∷ []) same)
last_cr_after f x (y ∷ ys) e = let w = last_cr_after (x == cr) y ys e in (x ∷ w.0, ap (λ t. x ∷ t) w.1)

pub last_cr : (front : List ℕ) → ends_cr false front ≡ true → (start : List ℕ) × (front ≡ start ++ cr ∷ [])
last_cr [] e = cc
last_cr (x ∷ xs) e = last_cr_after false x xs e
