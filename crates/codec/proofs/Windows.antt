-- A change of the text shows in the part alone up to where the decoder's states agree again.
use Rattle.std.proofs.Common.{◌≡◌, ℕ, ◌+◌, ◌≤◌, List, [], ◌∷◌, ◌++◌, length, ◌↔◌, refl, ap, append_assoc}
use Rattle.std.proofs.Math.Seq.{take-append-add, drop-append-add}
use Rattle.std.proofs.lemmas.{Grind.flat_map-append, List.append_cancel_left, List.append_cancel_right, List.take-append-le, List.drop-append-le}
use Rattle.codec.proofs.Prelude.{Ended, Table, run, feed, further, item_code_points}
use Rattle.codec.specs.Texts.{ended_text, run_text, fed_text, replaced}

-- ---- lists

-- the range is within a part of the list
pub replaced-within : (front part back put : List ℕ) (i j : ℕ) → i ≤ length part → j ≤ length part
    → replaced (front ++ (part ++ back)) (length front + i) (length front + j) put ≡ front ++ (replaced part i j put ++ back)
replaced-within front part back put i j i_in j_in =
    simp (take-append-add, drop-append-add, take-append-le i part back i_in, drop-append-le j part back j_in, append_assoc)

-- so a list is the replaced one exactly if the part is
pub replaced_part : (front old new back put : List ℕ) (i j : ℕ) → i ≤ length old → j ≤ length old
    → (front ++ (new ++ back) ≡ replaced (front ++ (old ++ back)) (length front + i) (length front + j) put) ↔ (new ≡ replaced old i j put)
replaced_part front old new back put i j i_in j_in =
    rw (replaced-within front old back put i j i_in j_in)
    (λ whole. append_cancel_right new (replaced old i j put) back (append_cancel_left front _ _ whole), λ part. rw part)

-- the same if nothing is after
pub replaced-behind : (front part put : List ℕ) (i j : ℕ) → replaced (front ++ part) (length front + i) (length front + j) put ≡ front ++ replaced part i j put
replaced-behind front part put i j = simp (take-append-add front part i, drop-append-add front part j, append_assoc)

pub replaced_rest : (front old new put : List ℕ) (i j : ℕ)
    → (front ++ new ≡ replaced (front ++ old) (length front + i) (length front + j) put) ↔ (new ≡ replaced old i j put)
replaced_rest front old new put i j =
    rw (replaced-behind front old put i j) (append_cancel_left front new (replaced old i j put), λ part. rw part)

-- ---- the text of a run, in parts

text-further : (n : ℕ) (es : List Ended) → ended_text (further n es) ≡ ended_text es
text-further n [] = refl
text-further n (e ∷ es) = ap (λ (xs : List ℕ). item_code_points e.item ++ xs) (text-further n es)

-- what is said of the runs of a table over two queues in a row
abbrev pub Parts : {S : Type 0} → Table S → Type 0
Parts {S} table = (s : S) (p q : List ℕ) → run table s (p ++ q) ≡ further (length q) (feed table s p).items ++ run table (feed table s p).state q

module _ {S : Type 0} (table : Table S) (parts : Parts table) where
  pub run_text-append : (s : S) (p q : List ℕ) → run_text table s (p ++ q) ≡ fed_text table s p ++ run_text table (feed table s p).state q
  run_text-append s p q = rw (parts s p q, flat_map-append, text-further) refl

  -- the text before, between and after
  run_text-parts : (s : S) (front part back : List ℕ) → let at = (feed table s front).state in
      run_text table s (front ++ (part ++ back)) ≡ fed_text table s front ++ (fed_text table at part ++ run_text table (feed table at part).state back)
  run_text-parts s front part back = rw (run_text-append s front (part ++ back), run_text-append (feed table s front).state part back) refl

  -- If old and new bytes are between the same bytes, and the states after them agree, the whole text is replaced rightly exactly if
  -- the text between is.
  pub window : (s : S) (front old new back put : List ℕ) (i j : ℕ) → let at = (feed table s front).state in
      i ≤ length (fed_text table at old) → j ≤ length (fed_text table at old) → (feed table at new).state ≡ (feed table at old).state
      → (run_text table s (front ++ (new ++ back))
      ≡ replaced (run_text table s (front ++ (old ++ back))) (length (fed_text table s front) + i) (length (fed_text table s front) + j) put)
      ↔ (fed_text table at new ≡ replaced (fed_text table at old) i j put)
  window s front old new back put i j i_in j_in agree =
      let at = (feed table s front).state in
      let before = fed_text table s front in
      rw (run_text-parts s front new back, agree, run_text-parts s front old back)
      (replaced_part before (fed_text table at old) (fed_text table at new) (run_text table (feed table at old).state back) put i j i_in j_in)

  -- Where they never agree, the window goes to the end.
  pub window_to_end : (s : S) (front old new put : List ℕ) (i j : ℕ) → let at = (feed table s front).state in
      (run_text table s (front ++ new)
      ≡ replaced (run_text table s (front ++ old)) (length (fed_text table s front) + i) (length (fed_text table s front) + j) put)
      ↔ (run_text table at new ≡ replaced (run_text table at old) i j put)
  window_to_end s front old new put i j =
      let at = (feed table s front).state in
      rw (run_text-append s front new, run_text-append s front old)
      (replaced_rest (fed_text table s front) (run_text table at old) (run_text table at new) put i j)
