-- The log of a document: what each of its last edits left unchanged.
use Rattle.std.specs.Prelude.{◌≡◌, ◌≤◌, ℕ, ◌+◌, ◌-◌, nat_lt, ◌||◌, min, List, [], ◌∷◌, ◌++◌, length, take, drop, if◌then◌else◌, ◌⊎◌}
use Rattle.piece_rope.specs.Edits.{spliced}
use Rattle.desk.specs.declared.untouched.{Patch.Patch, Untouched.Untouched}

-- the last n of a list
abbrev pub last_of : {A : Type 0} → ℕ → List A → List A
last_of n xs = drop (length xs - n) xs

-- how many edits a log has at most
abbrev pub log_length : ℕ
log_length = 1024

-- the log with one more edit; a full log loses the first
abbrev pub logged : List Untouched → Untouched → List Untouched
logged log u = last_of log_length (log ++ u ∷ [])

-- with these edits more, one after another
abbrev pub logged_all : List Untouched → List Untouched → List Untouched
logged_all log [] = log
logged_all log (u ∷ us) = logged_all (logged log u) us

-- ---- what edits leave

-- all of n bytes
abbrev pub all_untouched : ℕ → Untouched
all_untouched n = record { before = n; front = n; back = n }

-- What is left of n bytes where `ins` bytes replace the `del` bytes at `at`: the bytes before these, and those after them. If nothing goes out or
-- comes in, all are left.
abbrev pub untouched_by : ℕ → ℕ → ℕ → ℕ → Untouched
untouched_by at del ins n =
    if nat_lt 0 del || nat_lt 0 ins then record { before = n; front = min at n; back = n - at - del } else all_untouched n

-- what an edit and a later one both leave
abbrev pub both_untouched : Untouched → Untouched → Untouched
both_untouched u v = record { before = u.before; front = min u.front v.front; back = min u.back v.back }

-- what all edits of a list leave, the last of which left n bytes
abbrev pub all_leave : ℕ → List Untouched → Untouched
all_leave n [] = all_untouched n
all_leave n (u ∷ us) = both_untouched u (all_leave n us)

-- the splice to n bytes that leaves this; if nothing is removed or added, it is at 0
abbrev pub patch_of : ℕ → Untouched → Patch
patch_of n u =
    let del = u.before - u.front - u.back in
    let ins = n - u.front - u.back in
    record { at = if nat_lt 0 del || nat_lt 0 ins then u.front else 0; del = del; ins = ins }

-- ---- what that means

-- The first and the last bytes of the old ones are those of the new ones; and they don't overlap, unless all bytes are unchanged.
pub record Leaves (old new : List ℕ) (u : Untouched) : Type 0 where
  pub before : u.before ≡ length old
  pub apart : ((u.front + u.back ≤ length old) × (u.front + u.back ≤ length new)) ⊎ (new ≡ old)
  pub front : take u.front new ≡ take u.front old
  pub back : last_of u.back new ≡ last_of u.back old

-- The new bytes are the old ones with the `del` bytes at `at` replaced by the `ins` bytes that the new ones have there.
pub record Leads (old new : List ℕ) (p : Patch) : Type 0 where
  pub within : p.at + p.del ≤ length old
  pub fits : p.at + p.ins ≤ length new
  pub bytes : new ≡ spliced old p.at p.del (take p.ins (drop p.at new))
