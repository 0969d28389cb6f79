-- The laws of a reading, from its definition.
use Rattle.std.proofs.Common.{◌≡◌, ℕ, zero, suc, ◌+◌, ◌<◌, Bool, true, false, List, [], ◌∷◌, length, drop, get_or, Option, Some, None, is_some, Result, Ok, Err}
use Rattle.std.proofs.Common.{if◌then◌else◌, option_and_then, refl, arith, ◌⊎◌, inl, inr, ⊎_elim, below_more, nat_eq, IfErr, IfOk}
use Rattle.std.proofs.lemmas.{Bool.cases_eq, Bool.ne_eqb, Bool.false≢true, List.drop_more, List.drop_all}
use Rattle.std.specs.Str.Lines.{strip_carriage_return}
use Rattle.index_loader.proofs.Prelude.{IsScalar, starts_with, BadRanges, DuplicatePointer, IndexKind, IsReading, if_complete, is_out_of_memory, pairs_from}
use Rattle.index_loader.proofs.Prelude.{pairs_with, with_line, Loaded, lines_of, code_point_in, fields_of, is_skipped, number_in, pair_behind, pair_in}
use Rattle.index_loader.proofs.Prelude.{pair_with, stripped, FaultIs, Pairs, code_point_at, inserted, IsRising, as_scalar}
use Rattle.index_loader.proofs.{LineLemmas.stays, Places.fresh-pointer, Places.from-inserted, Places.into-inserted, Places.rising-inserted}
use Rattle.index_loader.proofs.Members.{Has, contains-has, has-contains, has-get_or}
use Rattle.index_loader.specs.declared.fault.{IndexCause.IndexCause, IndexFault.IndexFault}
use Rattle.index_loader.specs.FileLaws.{AreParsed, IsEntry, IsFaulty, IsFirstFault, reading_at}

-- the code point of a pointer comes from a pair
pair-of_pointer : (pairs : Pairs) (pointer : ℕ) → is_some (code_point_at pairs pointer) ≡ true → (pair : ℕ × ℕ) × Has pair pairs × (pair.0 ≡ pointer)
pair-of_pointer [] pointer there = absurd (false≢true there)
pair-of_pointer (pair ∷ pairs) pointer there =
    ⊎_elim
    (λ (same : pair.0 ≡ pointer). (pair, inl refl, same))
    (λ (other : pair.0 ≡ pointer → ⊥). let r = pair-of_pointer pairs pointer (rw (ne_eqb pair.0 pointer other) at there) in (r.0, inr r.1, r.2))
    (cases_eq pair.0 pointer)

module _ (kind : IndexKind) (lines : List (List ℕ)) where
  -- the pairs after some lines, of which none is faulty
  record ReadTo (n : ℕ) (pairs : Pairs) : Type 0 where
    from : (pair : ℕ × ℕ) → Has pair pairs → (k : ℕ) × (k < n) × (reading_at kind lines k ≡ Ok (Some pair))
    into : (k : ℕ) (pair : ℕ × ℕ) → k < n → reading_at kind lines k ≡ Ok (Some pair) → Has pair pairs
    good : (k : ℕ) (cause : IndexCause) → k < n → IsFaulty kind lines k cause → ⊥
    rising : IsRising pairs

  -- after one more line
  abbrev Step : ℕ → Result Pairs IndexFault → Type 0
  Step n (Ok pairs) = ReadTo (n + 1) pairs
  Step n (Err fault) = (fault.line ≡ n + 1) × IsFaulty kind lines n fault.cause

  module _ (n : ℕ) (pairs : Pairs) (read : ReadTo n pairs) where
    -- a line that holds nothing, or a pair with a new pointer
    step-good : (after : Pairs) (o : Option (ℕ × ℕ)) → reading_at kind lines n ≡ Ok o → IsRising after
        → ((pair : ℕ × ℕ) → Has pair after → (o ≡ Some pair) ⊎ Has pair pairs) → ((pair : ℕ × ℕ) → (o ≡ Some pair) ⊎ Has pair pairs → Has pair after)
        → ((pair new : ℕ × ℕ) → Has pair pairs → o ≡ Some new → pair.0 ≡ new.0 → ⊥) → ReadTo (n + 1) after
    step-good after o is rising from into fresh = record {
      from = λ pair h.
          ⊎_elim
          (λ (e : o ≡ Some pair). (n, omega arith, rw e at is))
          (λ (old : Has pair pairs). let r = read.from pair old in (r.0, omega arith, r.2))
          (from pair h);
      into = λ k pair. below_more (λ k. reading_at kind lines k ≡ Ok (Some pair) → Has pair after) n
          (λ k before parsed. into pair (inr (read.into k pair before parsed))) (λ parsed. into pair (inl cc)) k;
      good = λ k cause. below_more (λ k. IsFaulty kind lines k cause → ⊥) n (λ k before. read.good k cause before) (λ faulty. elim faulty [
        | inl e ↦ absurd (cc)
        | inr twice ↦ fresh twice.1.other twice.1.pair (read.into twice.1.earlier twice.1.other twice.1.above twice.1.parsed_above) (cc) twice.1.same
      ]) k;
      rising = rising;
    }

    step-pair : (new : ℕ × ℕ) → reading_at kind lines n ≡ Ok (Some new) → (b : Bool) → is_some (code_point_at pairs new.0) ≡ b
        → Step n (if b then Err (record { line = n + 1; cause = DuplicatePointer }) else Ok (inserted new pairs))
    step-pair new is true there =
        let p = pair-of_pointer pairs new.0 there in
        let r = read.from p.0 p.1 in
        (refl, inr (refl, record { pair = new; parsed = is; earlier = r.0; above = r.1; other = p.0; parsed_above = r.2; same = p.2 }))
    step-pair new is false fresh =
        step-good (inserted new pairs) (Some new) is (rising-inserted new pairs read.rising (λ pair h same. fresh-pointer pairs new pair fresh h same))
        (λ pair h. grind (arith, from-inserted new pair pairs h)) (λ pair h. into-inserted new pair pairs (grind arith))
        (λ pair other h e same. fresh-pointer pairs new pair fresh h (grind arith))

    step : (r : Result (Option (ℕ × ℕ)) IndexCause) → reading_at kind lines n ≡ r → Step n (pairs_with (n + 1) pairs r)
    step (Err cause) is = (refl, inl is)
    step (Ok None) is = step-good pairs None is read.rising (λ pair h. inr h) (λ pair h. grind arith) (λ pair new h e same. absurd (cc))
    step (Ok (Some new)) is = step-pair new is (is_some (code_point_at pairs new.0)) refl

  -- what the whole reading comes to
  abbrev Outcome : Result Pairs IndexFault → Type 0
  Outcome (Ok pairs) = ReadTo (length lines) pairs
  Outcome (Err fault) = IsFirstFault kind lines fault

  run-on : (n : ℕ) → n < length lines → (good : (k : ℕ) (cause : IndexCause) → k < n → IsFaulty kind lines k cause → ⊥)
      → (next : (pairs : Pairs) → ReadTo (n + 1) pairs → Outcome (pairs_from kind (Ok pairs) ((n + 1) + 1) (drop (n + 1) lines)))
      → (r : Result Pairs IndexFault) → Step n r → Outcome (pairs_from kind r ((n + 1) + 1) (drop (n + 1) lines))
  run-on n lt good next (Ok pairs) read = next pairs read
  run-on n lt good next (Err fault) faulty =
      rw (stays (with_line kind) fault ((n + 1) + 1) (drop (n + 1) lines))
      (record { place = n; within = lt; numbered = faulty.0; faulty = faulty.1; others_good = good })

  run : (m n : ℕ) (pairs : Pairs) → n + m ≡ length lines → ReadTo n pairs → Outcome (pairs_from kind (Ok pairs) (n + 1) (drop n lines))
  run zero n pairs e read =
      let end : n ≡ length lines = omega arith in rw (drop_all n lines (omega arith)) (rw end at read)
  run (suc m) n pairs e read =
      let lt : n < length lines = omega arith in
      rw (drop_more lines n [] lt)
      (run-on n lt read.good (λ ps more. run m (n + 1) ps (omega arith) more) (pairs_with (n + 1) pairs (reading_at kind lines n))
      (step n pairs read (reading_at kind lines n) refl))

  outcome : Outcome (pairs_from kind (Ok []) 1 lines)
  outcome = run (length lines) 0 [] (omega arith) (record {
    from = λ pair h. absurd h;
    into = λ k pair lt parsed. absurd (omega arith);
    good = λ k cause lt faulty. absurd (omega arith);
    rising = tt;
  })

-- the code point that a field holds is a scalar value
parsed-scalar : (o : Option ℕ) (c : ℕ) (b : Bool) → (if b then option_and_then as_scalar o else None) ≡ Some c → IsScalar c
parsed-scalar (Some n) c true is = grind arith
parsed-scalar o c b is = grind arith

behind-scalar : (fields : List (List ℕ)) (c : ℕ) → code_point_in fields ≡ Some c → IsScalar c
behind-scalar [] c is = absurd (cc)
behind-scalar (field ∷ fields) c is = parsed-scalar (number_in 16 (drop 2 (stripped field))) c (starts_with nat_eq (stripped field) (0x30 ∷ 0x78 ∷ [])) is

-- a file may have a pair with its code point
entry-with : (kind : IndexKind) (pointer : ℕ) (o : Option ℕ) (pair : ℕ × ℕ) → ((c : ℕ) → o ≡ Some c → IsScalar c)
    → pair_with kind pointer o ≡ Ok (Some pair) → IsEntry kind pair
entry-with kind pointer None pair scalars is = absurd (cc)
entry-with kind pointer (Some c) pair scalars is = let scalar = scalars c refl in grind (arith, is)

entry-behind : (kind : IndexKind) (o : Option ℕ) (fields : List (List ℕ)) (pair : ℕ × ℕ) → pair_behind kind o fields ≡ Ok (Some pair) → IsEntry kind pair
entry-behind kind None fields pair is = absurd (cc)
entry-behind kind (Some pointer) fields pair is = entry-with kind pointer (code_point_in fields) pair (behind-scalar fields) is

entry-in : (kind : IndexKind) (skipped : Bool) (fields : List (List ℕ)) (pair : ℕ × ℕ) → (if skipped then Ok None else pair_in kind fields)
    ≡ Ok (Some pair) → IsEntry kind pair
entry-in kind false (field ∷ fields) pair is = entry-behind kind (number_in 10 (stripped field)) fields pair is
entry-in kind false [] pair is = absurd (cc)
entry-in kind true fields pair is = absurd (cc)

-- what a reading without a fault says
pub parsed-pairs : (kind : IndexKind) (lines : List (List ℕ)) (pairs : Pairs) → pairs_from kind (Ok []) 1 lines ≡ Ok pairs → AreParsed kind lines pairs
parsed-pairs kind lines pairs is =
    let read : ReadTo kind lines (length lines) pairs = rw is at (outcome kind lines) in
    record {
      parsed = λ pair. (
        λ there. let r = read.from pair (has-contains pairs pair there) in record { place = r.0; within = r.1; parsed = r.2 },
        λ holds. contains-has pairs pair (read.into holds.place pair holds.within holds.parsed),
      );
      rising = read.rising;
      entries = λ k d lt. let r = read.from (get_or pairs k d) (has-get_or pairs k d lt) in
          let text = strip_carriage_return (get_or lines r.0 []) in entry-in kind (is_skipped text) (fields_of text) (get_or pairs k d) r.2;
      all_good = read.good;
    }

-- a file whose reading gives this, unless its ranges lack a row
unless-lacking : (kind : IndexKind) (r s : Result Pairs IndexFault) → if_complete kind r ≡ s → (r ≡ s) ⊎ (s ≡ Err (record { line = 0; cause = BadRanges }))
unless-lacking kind (Err fault) s is = inl is
unless-lacking kind (Ok pairs) s is = grind (arith, is)

-- the laws of a reading
pub reading-pairs : (kind : IndexKind) (bytes : List ℕ) (r : Result Loaded IndexFault) → IsReading kind bytes r
    → IfOk r (λ index. AreParsed kind (lines_of bytes) index.pairs)
reading-pairs kind bytes (Ok index) reading = elim (unless-lacking kind _ _ reading.0) [
  | inl is ↦ parsed-pairs kind (lines_of bytes) index.pairs is
  | inr lacking ↦ absurd (cc)
]
reading-pairs kind bytes (Err fault) reading = tt

fault-parsed : (refused : Bool) (fault : IndexFault) (parsed : Result Pairs IndexFault) → FaultIs refused fault.line fault parsed
    → 0 < fault.line → parsed ≡ Err fault
fault-parsed true fault parsed is lt = absurd (omega arith)
fault-parsed false fault parsed is lt = is

pub reading-fault : (kind : IndexKind) (bytes : List ℕ) (r : Result Loaded IndexFault) → IsReading kind bytes r
    → IfErr r (λ fault. 0 < fault.line → IsFirstFault kind (lines_of bytes) fault)
reading-fault kind bytes (Ok index) reading = tt
reading-fault kind bytes (Err fault) reading = λ lt. elim (unless-lacking kind _ _ (fault-parsed (is_out_of_memory fault.cause) fault _ reading lt)) [
  | inl is ↦ rw is at (outcome kind (lines_of bytes))
  | inr lacking ↦ let e : fault ≡ record { line = 0; cause = BadRanges } = cc in
      let none : fault.line ≡ 0 = rw e in absurd (omega arith)
]
