-- What a piece remembers stays its own.
use Rattle.std.proofs.{Common.cond, lemmas.Bool.cond-false, lemmas.Bool.cond-true, lemmas.Bool.cond_both, lemmas.List.Sums.sum_by-cons}
use Rattle.state_memo.specs.Memo.{Known, fitting, memory_of, put_first}
use Rattle.piece_rope.proofs.Prelude.{◌≡◌, ◌≤◌, ◌-◌, ℕ, refl, sym, ap, ◌∙◌, zero, suc, Bool, true, false, nat_le, List, [], ◌∷◌, take, drop, length}
use Rattle.piece_rope.proofs.Prelude.{length-append, Option, Some, None, option_map, arith, feed, AnyState, AnyDecoding, any, Outcome, Contents, contents_of}
use Rattle.piece_rope.proofs.Prelude.{outcome_of, ending_of, sum_of, Memo, is_some, same_state, recalled, without, installed, entered, Entry, AreRight, IsOwn}
use Rattle.piece_rope.proofs.Prelude.{IsRenewed, Chain, bytes_of, here_of, leb-true, outcome_or, piece_room, Laws, spared}
use Rattle.piece_rope.specs.Room.{all_beside, beside, room_in}

module _ {d : AnyDecoding} (laws : Laws d) (bytes : List ℕ) where
  pub right-without : (ks : List Known) (s : AnyState) → AreRight d bytes ks → AreRight d bytes (without ks s)
  right-without [] s r = tt
  right-without (k ∷ ks) s r =
      cond_both (same_state k.entry s) ks (k ∷ without ks s) (AreRight d bytes) (λ _. r.1) (λ _. (r.0, right-without ks s r.1))

  pub right-take : (n : ℕ) (ks : List Known) → AreRight d bytes ks → AreRight d bytes (take n ks)
  right-take zero ks r = tt
  right-take (suc n) [] r = tt
  right-take (suc n) (k ∷ ks) r = (r.0, right-take n ks r.1)

  right-put : (r : Option Outcome) (ks : List Known) (s : AnyState) → AreRight d bytes ks
      → ((o : Outcome) → r ≡ Some o → contents_of o ≡ outcome_of d s bytes) → AreRight d bytes (put_first r ks s)
  right-put None ks s right is = right
  right-put (Some o) ks s right is = (is o refl, right-without ks s right)

  recalled-by : (b : Bool) (k : Known) (s : AnyState) (rest : Option Outcome) (o : Outcome) → same_state k.entry s ≡ b
      → contents_of k.outcome ≡ outcome_of d k.entry bytes
      → (rest ≡ Some o → contents_of o ≡ outcome_of d s bytes) → cond b (Some k.outcome) rest ≡ Some o → contents_of o ≡ outcome_of d s bytes
  recalled-by true k s rest o same right later found =
      let e : o ≡ k.outcome = cc in
      ap contents_of e ∙ right ∙ ap (λ (t : AnyState). outcome_of d t bytes) (laws.exact k.entry s same)
  recalled-by false k s rest o same right later found = later found

  pub right-recalled : (ks : List Known) (s : AnyState) (o : Outcome) → AreRight d bytes ks → recalled ks s ≡ Some o → contents_of o ≡ outcome_of d s bytes
  right-recalled [] s o r found = absurd cc
  right-recalled (k ∷ ks) s o r found = recalled-by (same_state k.entry s) k s (recalled ks s) o refl r.0 (right-recalled ks s o r.1) found

  pub right-entered : (ks : List Known) (s : AnyState) → AreRight d bytes ks → AreRight d bytes (entered ks s)
  right-entered ks s right = right-put (recalled ks s) ks s right (λ o found. right-recalled ks s o right found)

  pub right-fitting : (most : ℕ) (ks : List Known) → AreRight d bytes ks → AreRight d bytes (fitting most ks)
  right-fitting most [] r = tt
  right-fitting most (k ∷ ks) r =
      cond_both (nat_le k.outcome.memory most) (k ∷ fitting (most - k.outcome.memory) ks) [] (AreRight d bytes)
      (λ _. (r.0, right-fitting (most - k.outcome.memory) ks r.1)) (λ _. tt)

  right-rest : (ks : List Known) → AreRight d bytes ks → AreRight d bytes (drop 1 ks)
  right-rest [] r = tt
  right-rest (k ∷ ks) r = r.1

  pub exit-recalled : (ks : List Known) (s : AnyState) (o : Outcome) → AreRight d bytes ks → recalled ks s ≡ Some o → o.exit ≡ (feed (any d) s bytes).state
  exit-recalled ks s o r found = ap (λ (x : Contents). x.exit) (right-recalled ks s o r found) ∙ laws.exit s bytes

-- what a piece remembers once this is computed, and the piece then
abbrev pub then_known : Entry → AnyState → Outcome → List Known
then_known p s o = spared (piece_room p.piece.bytes) (installed (entered p.piece.known p.entry) s o)

abbrev pub computed : Entry → AnyState → Outcome → Memo
computed p s o = record { bytes = p.piece.bytes; known = then_known p s o }

-- what has room
abbrev memory : Known → ℕ
memory k = k.outcome.memory

memory-fitting : (most : ℕ) (ks : List Known) → memory_of (fitting most ks) ≤ most
memory-fitting most [] = omega arith
memory-fitting most (k ∷ ks) =
    let rest = fitting (most - k.outcome.memory) ks in
    let few = memory-fitting (most - k.outcome.memory) ks in
    cond_both (nat_le k.outcome.memory most) (k ∷ rest) [] (λ (xs : List Known). memory_of xs ≤ most)
    (λ fits. omega (arith, leb-true k.outcome.memory most fits, few, sum_by-cons memory k rest)) (λ _. omega arith)

-- several that were spared have room together
several-spared : (most : ℕ) (ks : List Known) → 2 ≤ length (spared most ks) → memory_of (spared most ks) ≤ most
several-spared most [] several = omega arith
several-spared most (k ∷ ks) several =
    let rest = fitting (most - k.outcome.memory) ks in
    let few = memory-fitting (most - k.outcome.memory) ks in
    cond_both (nat_le k.outcome.memory most) (k ∷ rest) []
    (λ (xs : List Known). 2 ≤ length (k ∷ drop 1 xs) → memory_of (k ∷ drop 1 xs) ≤ most)
    (λ fits _. omega (arith, leb-true k.outcome.memory most fits, few, sum_by-cons memory k rest)) (λ _ more. absurd (omega (arith, more))) several

memory-without : (ks : List Known) (s : AnyState) → memory_of (without ks s) ≤ memory_of ks
memory-without [] s = omega arith
memory-without (k ∷ ks) s =
    let few = memory-without ks s in
    cond_both (same_state k.entry s) ks (k ∷ without ks s) (λ (xs : List Known). memory_of xs ≤ memory_of (k ∷ ks))
    (λ _. omega (arith, sum_by-cons memory k ks)) (λ _. omega (arith, few, sum_by-cons memory k ks, sum_by-cons memory k (without ks s)))

sole : (b : Bool) (k : Known) (most : ℕ) → is_some (cond b (Some k.outcome) None) ≡ true → memory_of (cond b [] (k ∷ [])) ≤ most
sole true k most known = omega arith
sole false k most known = absurd cc

-- where several have room together, and a sole one is that of this state, the others have room
room-beside : (ks : List Known) (s : AnyState) (most : ℕ) → is_some (recalled ks s) ≡ true → (2 ≤ length ks → memory_of ks ≤ most)
    → memory_of (without ks s) ≤ most
room-beside [] s most known room = omega arith
room-beside (k ∷ []) s most known room = sole (same_state k.entry s) k most known
room-beside (k ∷ l ∷ ks) s most known room = omega (arith, room (omega arith), memory-without (k ∷ l ∷ ks) s)

there : (r : Option Outcome) (x : Contents) → option_map contents_of r ≡ Some x → is_some r ≡ true
there None x e = absurd cc
there (Some o) x e = refl

module _ {d : AnyDecoding} (laws : Laws d) where
  -- a piece whose first outcome is that from the state in which it is entered, and which has room for all if these are several
  own-first : (bytes : List ℕ) (s : AnyState) (o : Outcome) (rest : List Known) → contents_of o ≡ outcome_of d s bytes → AreRight d bytes rest
      → (2 ≤ length (record { entry = s; outcome = o } ∷ rest) → memory_of (record { entry = s; outcome = o } ∷ rest) ≤ room_in bytes)
      → IsOwn d (record { piece = record { bytes = bytes; known = record { entry = s; outcome = o } ∷ rest }; entry = s })
  own-first bytes s o rest is right room = record {
    right = (is, right);
    here_is = ap (option_map contents_of) (cond-true (same_state s s) (Some o) (recalled rest s) (laws.same s)) ∙ ap Some is;
    lean = room;
  }

  -- what else it remembers, as far as there is room
  own-spared : (bytes : List ℕ) (s : AnyState) (o : Outcome) (ks : List Known) → contents_of o ≡ outcome_of d s bytes → AreRight d bytes ks
      → IsOwn d (record { piece = record { bytes = bytes; known = spared (piece_room bytes) (record { entry = s; outcome = o } ∷ ks) }; entry = s })
  own-spared bytes s o ks is right =
      let all : List Known = record { entry = s; outcome = o } ∷ ks in
      let room = piece_room bytes in
      own-first bytes s o (drop 1 (fitting room all)) is (right-rest laws bytes (fitting room all) (right-fitting laws bytes room all (is, right)))
      (λ several. omega (arith, several-spared room all several))

  -- a piece entered in a state that it remembers
  pub own-shared : {p : Entry} {m : Memo} (s : AnyState) {o : Outcome} → IsOwn d p → recalled p.piece.known s ≡ Some o → m ≡ p.piece
      → IsOwn d (record { piece = m; entry = s })
  own-shared {p} s {o} own found is = rw is (record {
    right = own.right;
    here_is = ap (option_map contents_of) found ∙ ap Some (right-recalled laws p.piece.bytes p.piece.known s o own.right found);
    lean = own.lean;
  })

  pub known-shared : (p : Entry) {m : Memo} (s : AnyState) {o : Outcome} → recalled p.piece.known s ≡ Some o → m ≡ p.piece → is_some (recalled m.known s) ≡ true
  known-shared p s found is = rw is (ap is_some found)

  -- what is found first once it was computed
  found-computed : (room : ℕ) (ks : List Known) (s : AnyState) (o : Outcome) → recalled (spared room (installed ks s o)) s ≡ Some o
  found-computed room ks s o =
      cond-true (same_state s s) (Some o) (recalled (drop 1 (fitting room (record { entry = s; outcome = o } ∷ take 3 (without ks s)))) s) (laws.same s)

  pub known-computed : (p : Entry) {m : Memo} (s : AnyState) (o : Outcome) → m ≡ computed p s o → is_some (recalled m.known s) ≡ true
  known-computed p s o is = rw is (ap is_some (found-computed (piece_room p.piece.bytes) (entered p.piece.known p.entry) s o))

  -- and in one from which it was computed
  pub own-computed : {p : Entry} {m : Memo} (s : AnyState) (o : Outcome) → IsOwn d p → contents_of o ≡ outcome_of d s p.piece.bytes
      → m ≡ computed p s o → IsOwn d (record { piece = m; entry = s })
  own-computed {p} s o own is m_is =
      let ks = without (entered p.piece.known p.entry) s in
      rw m_is (own-spared p.piece.bytes s o (take 3 ks) is
      (right-take laws p.piece.bytes 3 ks
      (right-without laws p.piece.bytes (entered p.piece.known p.entry) s (right-entered laws p.piece.bytes p.piece.known p.entry own.right))))

  -- a new piece
  pub own-made : (bytes : List ℕ) {m : Memo} (s : AnyState) (o : Outcome) → contents_of o ≡ outcome_of d s bytes
      → m ≡ record { bytes = bytes; known = installed [] s o } → IsOwn d (record { piece = m; entry = s })
  own-made bytes s o is m_is = rw m_is (own-first bytes s o [] is tt (λ several. absurd (omega (arith, several))))

  -- what pieces in a row remember besides has room in all their bytes
  pub all-lean : (s : AnyState) (ps : List Entry) → Chain d s ps → all_beside ps ≤ room_in (bytes_of ps)
  all-lean s [] c = omega arith
  all-lean s (p ∷ ps) c =
      let own = c.1 in
      let room = room-beside p.piece.known p.entry (room_in p.piece.bytes)
      (there (recalled p.piece.known p.entry) (outcome_of d p.entry p.piece.bytes) own.here_is) own.lean in
      omega (arith, room, all-lean (feed (any d) s p.piece.bytes).state ps c.2, sum_by-cons beside p ps, length-append p.piece.bytes (bytes_of ps))

-- a piece that remembers an outcome more, and forgets then what has no room
pub made-spared : {moved more less made : Memo} (p : Entry) (s : AnyState) (o : Outcome) {room : ℕ}
    → moved ≡ record { bytes = p.piece.bytes; known = entered p.piece.known p.entry } → more ≡ record { bytes = moved.bytes; known = installed moved.known s o }
    → room ≡ piece_room p.piece.bytes → less ≡ record { bytes = more.bytes; known = spared room more.known } → made ≡ less → made ≡ computed p s o
made-spared p s o moved_is more_is room_is less_is made_is = rw (made_is, less_is, more_is, moved_is, room_is) refl

module _ {d : AnyDecoding} (laws : Laws d) where
  pub renewed-shared : {p : Entry} {m : Memo} {s : AnyState} {o : Outcome} → recalled p.piece.known s ≡ Some o → m ≡ p.piece
      → IsRenewed p (record { piece = m; entry = s })
  renewed-shared {p} {s = s} found is =
      let kept = cond-true (is_some (recalled p.piece.known s)) p.piece.known (then_known p s (here_of (record { piece = p.piece; entry = s }))) in
      rw is (record { bytes = refl; known = sym (kept (ap is_some found)) })

  pub renewed-computed : {p : Entry} {m : Memo} {s : AnyState} (o : Outcome) → recalled p.piece.known s ≡ None → m ≡ computed p s o
      → IsRenewed p (record { piece = m; entry = s })
  renewed-computed {p} {s = s} o none is =
      let here = ap (outcome_or s) (found-computed laws (piece_room p.piece.bytes) (entered p.piece.known p.entry) s o) in
      let changed = cond-false (is_some (recalled p.piece.known s)) p.piece.known (then_known p s (outcome_or s (recalled (then_known p s o) s))) in
      rw is (record { bytes = refl; known = ap (then_known p s) (sym here) ∙ sym (changed (ap is_some none)) })

pub ending-exit : (d : AnyDecoding) (s : AnyState) (o : Outcome) → contents_of o ≡ ending_of d s → o.exit ≡ s
unfolding ending_of
ending-exit d s o e = ap (λ (c : Contents). c.exit) e

pub ending-own : (d : AnyDecoding) (s : AnyState) (o : Outcome) → contents_of o ≡ ending_of d s → contents_of o ≡ ending_of d o.exit
ending-own d s o e = e ∙ ap (ending_of d) (sym (ending-exit d s o e))

pub ending-bytes : (d : AnyDecoding) (s : AnyState) (o : Outcome) → contents_of o ≡ ending_of d s → o.sum.bytes ≡ 0
unfolding ending_of sum_of
ending-bytes d s o e = ap (λ (c : Contents). c.sum.bytes) e
