-- What edits leave as it was, and the splice that they come to.
use Rattle.std.proofs.Common.{◌≡◌, ℕ, ◌+◌, ◌-◌, ◌≤◌, ◌<◌, nat_lt, ◌||◌, min, suc, Bool, true, false, List, [], ◌∷◌, ◌++◌, length, take, drop}
use Rattle.std.proofs.Common.{if◌then◌else◌, ◌⊎◌, inl, inr, refl, sym, ap, ◌∙◌, arith, append_assoc, append-nil, add-zero, slice_get, Some, None}
use Rattle.std.proofs.lemmas.List.{drop-drop, length-drop, length-take-le, length-append, take-append-drop, take-append-le, take-take, drop-append-le, drop_all}
use Rattle.std.proofs.lemmas.{List.drop_at, Bool.Decides.nat_tests}
use Rattle.std.proofs.Math.Seq.{take-add}
use Rattle.lemmas.proofs.Lists.{drop-next}
use Rattle.desk.specs.Log.{Leads, Leaves, all_untouched, both_untouched, last_of, log_length, logged, logged_all, patch_of, untouched_by}
use Rattle.desk.specs.declared.untouched.{Patch.Patch, Untouched.Untouched}
use Rattle.piece_rope.specs.Edits.{spliced, splice_fault}

-- ---- the first and the last of a list

same_front : (n m : ℕ) (xs ys : List ℕ) → n ≤ m → take m xs ≡ take m ys → take n xs ≡ take n ys
same_front n m xs ys small e = sym (take-take n m xs small) ∙ ap (take n) e ∙ take-take n m ys small

pub last-last : {A : Type 0} (n m : ℕ) (xs : List A) → n ≤ m → last_of n (last_of m xs) ≡ last_of n xs
last-last n m xs small =
    let cut = length-drop (length xs - m) xs in
    let places : length xs - m + (length (drop (length xs - m) xs) - n) ≡ length xs - n = omega (arith, cut, small) in
    drop-drop (length (drop (length xs - m) xs) - n) (length xs - m) xs ∙ ap (λ i. drop i xs) places

same_back : (n m : ℕ) (xs ys : List ℕ) → n ≤ m → last_of m xs ≡ last_of m ys → last_of n xs ≡ last_of n ys
same_back n m xs ys small e = sym (last-last n m xs small) ∙ ap (last_of n) e ∙ last-last n m ys small

-- the last n after the last n
pub last-more : {A : Type 0} (n : ℕ) (xs ys : List A) → last_of n (last_of n xs ++ ys) ≡ last_of n (xs ++ ys)
last-more n xs ys =
    let cut = length xs - n in
    let places : cut + (length (drop cut xs ++ ys) - n) ≡ length (xs ++ ys) - n =
    omega (arith, length-drop cut xs, length-append (drop cut xs) ys, length-append xs ys) in
    ap (λ zs. drop (length (drop cut xs ++ ys) - n) zs) (sym (drop-append-le cut xs ys (omega arith)))
    ∙ drop-drop (length (drop cut xs ++ ys) - n) cut (xs ++ ys)
    ∙ ap (λ i. drop i (xs ++ ys)) places

-- ---- two edits

abbrev Apart : List ℕ → List ℕ → Untouched → Type 0
Apart old new u = ((u.front + u.back ≤ length old) × (u.front + u.back ≤ length new)) ⊎ (new ≡ old)

apart-both : (old mid new : List ℕ) (u v : Untouched) → Apart old mid u → Apart mid new v → Apart old new (both_untouched u v)
apart-both old mid new u v (inl a) (inl b) = inl (omega arith, omega arith)
apart-both old mid new u v (inl a) (inr same) = inl (omega arith, omega (arith, ap length same))
apart-both old mid new u v (inr same) (inl b) = inl (omega (arith, ap length same), omega arith)
apart-both old mid new u v (inr same) (inr again) = inr (again ∙ same)

pub both-leave : (old mid new : List ℕ) (u v : Untouched) → Leaves old mid u → Leaves mid new v → Leaves old new (both_untouched u v)
both-leave old mid new u v f g = record {
  before = f.before;
  apart = apart-both old mid new u v f.apart g.apart;
  front = same_front (min u.front v.front) v.front new mid (omega arith) g.front ∙ same_front (min u.front v.front) u.front mid old (omega arith) f.front;
  back = same_back (min u.back v.back) v.back new mid (omega arith) g.back ∙ same_back (min u.back v.back) u.back mid old (omega arith) f.back;
}

pub all-untouched-leave : (bytes : List ℕ) → Leaves bytes bytes (all_untouched (length bytes))
all-untouched-leave bytes = record { before = refl; apart = inr refl; front = refl; back = refl }

-- ---- the splice

leads-by : (old new : List ℕ) (at del ins back : ℕ) → at + del + back ≡ length old → at + ins + back ≡ length new → take at new ≡ take at old
    → last_of back new ≡ last_of back old → Leads old new (record { at = at; del = del; ins = ins })
leads-by old new at del ins back olds news front behind =
    let old_place : length old - back ≡ at + del = omega (arith, olds) in
    let new_place : length new - back ≡ at + ins = omega (arith, news) in
    let rest = rw (old_place, new_place) at behind in record {
      within = omega (arith, olds);
      fits = omega (arith, news);
      bytes = rw (← front, ← rest, ← take-add at ins new) (sym (take-append-drop (at + ins) new));
    }

-- nothing goes out or comes in
leads-same : (old new : List ℕ) → new ≡ old → Leads old new (record { at = 0; del = 0; ins = 0 })
leads-same old new same = record { within = omega arith; fits = omega arith; bytes = same }

abbrev Changes : List ℕ → Untouched → Bool
Changes new u = nat_lt 0 (u.before - u.front - u.back) || nat_lt 0 (length new - u.front - u.back)

abbrev Patched : List ℕ → Untouched → Bool → Patch
Patched new u changes = record { at = if changes then u.front else 0; del = u.before - u.front - u.back; ins = length new - u.front - u.back }

module _ (old new : List ℕ) (u : Untouched) (f : Leaves old new u) where
  changed : Changes new u ≡ true → Apart old new u → Leads old new (Patched new u true)
  changed e (inl apart) =
      leads-by old new u.front (u.before - u.front - u.back) (length new - u.front - u.back) u.back (omega arith) (omega arith) f.front f.back
  changed e (inr same) =
      let len = ap length same in
      let some : 0 < length new - u.front - u.back = grind (arith, nat_tests) in
      leads-by old new u.front (u.before - u.front - u.back) (length new - u.front - u.back) u.back (omega arith) (omega arith) f.front f.back

  -- where the first and the last bytes are all, they are the same
  nothing : u.before - u.front - u.back ≡ 0 → length new - u.front - u.back ≡ 0 → Apart old new u → new ≡ old
  nothing no_del no_ins (inl apart) =
      (leads-by old new u.front 0 0 u.back (omega arith) (omega arith) f.front f.back).bytes ∙ simp (append-nil, add-zero, take-append-drop)
  nothing no_del no_ins (inr same) = same

  patch-by : (changes : Bool) → Changes new u ≡ changes → Leads old new (Patched new u changes)
  patch-by true e = changed e f.apart
  patch-by false e =
      let no_del : u.before - u.front - u.back ≡ 0 = grind (arith, nat_tests) in
      let no_ins : length new - u.front - u.back ≡ 0 = grind (arith, nat_tests) in
      rw (no_del, no_ins) (leads-same old new (nothing no_del no_ins f.apart))

  pub patch-leads : Leads old new (patch_of (length new) u)
  patch-leads = patch-by (Changes new u) refl

-- ---- the last of a log, one by one

-- one more of them
pub one-earlier : (xs : List Untouched) (n : ℕ) (x : Untouched) → n < length xs → slice_get xs (length xs - n - 1) ≡ Some x
    → last_of (n + 1) xs ≡ x ∷ last_of n xs
one-earlier xs n x small e =
    let here : length xs - (n + 1) ≡ length xs - n - 1 = omega arith in
    let next : suc (length xs - n - 1) ≡ length xs - n = omega (arith, small) in
    ap (λ i. drop i xs) here ∙ drop-next xs (length xs - n - 1) x e ∙ ap (λ i. x ∷ drop i xs) next

pub last-none : (xs : List Untouched) → last_of 0 xs ≡ []
last-none xs = drop_all _ xs (omega arith)

-- ---- a splice

-- what it removes exists
pub within : (bytes : List ℕ) (at del : ℕ) (ins : List ℕ) → splice_fault bytes at del ins ≡ None → at + del ≤ length bytes
unfolding splice_fault
within bytes at del ins e = grind (arith, nat_tests)

some-left : (old : List ℕ) (at del : ℕ) (ins : List ℕ) → at + del ≤ length old
    → Leaves old (spliced old at del ins) (record { before = length old; front = min at (length old); back = length old - at - del })
some-left old at del ins fits =
    let rest = drop (at + del) old in
    let new = spliced old at del ins in
    let in_front = length-take-le at old (omega (arith, fits)) in
    let behind = length-drop (at + del) old in
    let all = length-append (take at old ++ ins) rest in
    let some = length-append (take at old) ins in
    let least : min at (length old) ≡ at = omega (arith, fits) in
    let old_place : length old - (length old - at - del) ≡ at + del = omega (arith, fits) in record {
      before = refl;
      apart = inl (omega (arith, fits), omega (arith, fits, in_front, behind, all, some));
      front = rw (least, append_assoc (take at old) ins rest, take-append-le at (take at old) (ins ++ rest) (omega (arith, in_front)))
          (take-take at at old (omega arith));
      back = drop_at (take at old ++ ins) rest _ (omega (arith, fits, behind, all)) ∙ ap (λ i. drop i old) (sym old_place);
    }

-- nothing goes out or comes in
same-bytes : (old : List ℕ) (at : ℕ) → spliced old at 0 [] ≡ old
same-bytes old at = simp (append-nil, add-zero, take-append-drop)

all-left : (old : List ℕ) (at del : ℕ) (ins : List ℕ) → del ≡ 0 → length ins ≡ 0 → Leaves old (spliced old at del ins) (all_untouched (length old))
all-left old at del [] none no_ins = rw (none, same-bytes old at) (all-untouched-leave old)
all-left old at del (b ∷ ins) none no_ins = cc

left-by : (b : Bool) (old : List ℕ) (at del : ℕ) (ins : List ℕ) → at + del ≤ length old → (nat_lt 0 del || nat_lt 0 (length ins)) ≡ b
    → Leaves old (spliced old at del ins)
    (if b then record { before = length old; front = min at (length old); back = length old - at - del } else all_untouched (length old))
left-by true old at del ins fits e = some-left old at del ins fits
left-by false old at del ins fits e =
    let no_del : del ≡ 0 = grind (arith, nat_tests) in
    let no_ins : length ins ≡ 0 = grind (arith, nat_tests) in
    all-left old at del ins no_del no_ins

pub splice-leaves : (old : List ℕ) (at del : ℕ) (ins : List ℕ) → at + del ≤ length old
    → Leaves old (spliced old at del ins) (untouched_by at del (length ins) (length old))
splice-leaves old at del ins fits = left-by (nat_lt 0 del || nat_lt 0 (length ins)) old at del ins fits refl

-- ---- a log with edits more

pub logged-append : (log us vs : List Untouched) → logged_all log (us ++ vs) ≡ logged_all (logged_all log us) vs
logged-append log [] vs = refl
logged-append log (u ∷ us) vs = logged-append (logged log u) us vs

-- it has the last of all
logged-some : (log : List Untouched) (u : Untouched) (us : List Untouched) → logged_all log (u ∷ us) ≡ last_of log_length (log ++ u ∷ us)
logged-some log u [] = refl
logged-some log u (v ∷ vs) =
    logged-some (logged log u) v vs ∙ last-more log_length (log ++ u ∷ []) (v ∷ vs) ∙ ap (last_of log_length) (append_assoc log (u ∷ []) (v ∷ vs))

last-of-append : (xs ys : List Untouched) → last_of (length ys) (xs ++ ys) ≡ ys
last-of-append xs ys = drop_at xs ys _ (omega (arith, length-append xs ys))

length-last : (n : ℕ) (xs : List Untouched) → length (last_of n xs) ≡ min n (length xs)
length-last n xs = let cut = length-drop (length xs - n) xs in omega (arith, cut)

-- where it can have them all, they are its last
pub known-last : (log us : List Untouched) → length us ≤ log_length → last_of (length us) (logged_all log us) ≡ us
known-last log [] few = last-none log
known-last log (u ∷ us) few =
    ap (last_of (length (u ∷ us))) (logged-some log u us) ∙ last-last (length (u ∷ us)) log_length (log ++ u ∷ us) few ∙ last-of-append log (u ∷ us)

pub known-length : (log us : List Untouched) → length us ≤ log_length → length us ≤ length (logged_all log us)
known-length log [] few = omega arith
known-length log (u ∷ us) few =
    omega (arith, ap length (logged-some log u us), length-last log_length (log ++ u ∷ us), length-append log (u ∷ us), few)

-- otherwise it is full
pub full-length : (log us : List Untouched) → log_length < length us → length (logged_all log us) ≡ log_length
full-length log [] many = absurd (omega (arith, many))
full-length log (u ∷ us) many =
    omega (arith, ap length (logged-some log u us), length-last log_length (log ++ u ∷ us), length-append log (u ∷ us), many)
