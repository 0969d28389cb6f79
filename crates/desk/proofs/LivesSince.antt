-- What came since a revision, in a life of a document.
use Rattle.std.proofs.Common.{◌≡◌, ℕ, ◌-◌, ◌<◌, ◌≤◌, nat_lt, nat_le, true, false, List, [], ◌∷◌, length, refl, sym, ap, ◌∙◌, subst, arith, Ok, Err}
use Rattle.desk.proofs.Prelude.{nat_tests, Files, Setting, Ask, Entry, Fault, edited_by, edited_by_all, IsLife, LeaveEach, LeadsSince, SinceLeads, Leads}
use Rattle.desk.proofs.Prelude.{Leaves, all_leave, last_of, log_length, patch_of, patch_since, edits_of, Untouched}
use Rattle.desk.proofs.{Lives.lives, Logs.all-untouched-leave, Logs.both-leave, Logs.patch-leads, Logs.known-last, Logs.known-length, Logs.full-length}

-- as many as there are edits
left-length : (indexes : Files) (setting : Setting) (bytes : List ℕ) (es : List Ask) (us : List Untouched)
    → LeaveEach indexes setting bytes es us → length us ≡ length es
left-length indexes setting bytes [] [] p = refl
left-length indexes setting bytes (e ∷ es) (u ∷ us) p = let more =
    left-length indexes setting (edited_by indexes setting bytes e) es us p.1 in omega (arith, more)
left-length indexes setting bytes es us p = absurd p

-- what they all leave
all-left : (indexes : Files) (setting : Setting) (bytes : List ℕ) (es : List Ask) (us : List Untouched) → LeaveEach indexes setting bytes es us
    → (let now = edited_by_all indexes setting bytes es in Leaves bytes now (all_leave (length now) us))
all-left indexes setting bytes [] [] p = all-untouched-leave bytes
all-left indexes setting bytes (e ∷ es) (u ∷ us) p =
    let mid = edited_by indexes setting bytes e in
    let now = edited_by_all indexes setting mid es in
    both-leave bytes mid now u (all_leave (length now) us) p.0 (all-left indexes setting mid es us p.1)
all-left indexes setting bytes es us p = absurd p

module _ (indexes : Files) (begin now : Entry) (edits : List Ask) (life : IsLife indexes begin edits now) where
  count : length life.left ≡ length edits
  count = left-length indexes begin.setting begin.bytes edits life.left life.each

  since : now.revision - begin.revision ≡ length edits
  since = let is = life.revision in omega (arith, is)

  not-later : nat_lt now.revision begin.revision ≡ false
  not-later = let is = life.revision in grind (arith, nat_tests)

  leads : Leads begin.bytes now.bytes (patch_of (length now.bytes) (all_leave (length now.bytes) life.left))
  leads =
      subst (λ b. Leads begin.bytes b (patch_of (length b) (all_leave (length b) life.left))) (sym life.bytes)
      (patch-leads begin.bytes (edited_by_all indexes begin.setting begin.bytes edits) _ (all-left indexes begin.setting begin.bytes edits life.left life.each))

  known : length edits ≤ log_length → patch_since now begin.revision ≡ Ok (patch_of (length now.bytes) (all_leave (length now.bytes) life.left))
  known few =
      let few_left : length life.left ≤ log_length = omega (arith, count, few) in
      let there : length edits ≤ length now.log = omega (arith, known-length begin.log life.left few_left, ap length life.log, count) in
      let test : nat_le (length edits) (length now.log) ≡ true = grind (arith, nat_tests) in
      let last : last_of (length edits) now.log ≡ life.left = rw (← count, life.log) (known-last begin.log life.left few_left) in
      rw (not-later, since, test, last) refl

  forgotten : log_length < length edits → patch_since now begin.revision ≡ Err (Fault.Forgotten (now.revision - log_length))
  forgotten many =
      let full : length now.log ≡ log_length = ap length life.log ∙ full-length begin.log life.left (omega (arith, count, many)) in
      let test : nat_le (length edits) log_length ≡ false = grind (arith, nat_tests) in
      rw (not-later, since, full, test) refl

  pub leads-since : LeadsSince begin now (length edits)
  leads-since = record {
    known = λ few. (patch_of (length now.bytes) (all_leave (length now.bytes) life.left), known few, leads);
    forgotten = forgotten;
  }

pub since_leads : SinceLeads
since_leads d o p acts begin found done lasts =
    let life = lives d o p acts begin found done lasts in
    (life.0, life.1, leads-since o.indexes begin life.0 (edits_of d acts) life.2)
