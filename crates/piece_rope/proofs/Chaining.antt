-- Chains of pieces, taken apart and put together.
use Rattle.piece_rope.proofs.Prelude.{◌≡◌, refl, sym, ap, ◌∙◌, subst, Bool, ℕ, suc, ◌+◌, ◌≤◌, true, false, List, [], ◌∷◌, ◌++◌, take, drop, length, slice_get}
use Rattle.piece_rope.proofs.Prelude.{Some, arith, append-nil, take-append-drop, length-append, flat_map-append, length-take-le, slice_get_within, feed}
use Rattle.piece_rope.proofs.Prelude.{AnyDecoding, AnyState, any, same_state, Entry, Passed, IsOwn, IsRenewed, Chain, AreRenewed, bytes_of, state_after, renew}
use Rattle.piece_rope.proofs.Prelude.{renewed, drop-next, take-next, length-snoc, AllLaws, Laws}
use Rattle.piece_rope.specs.Laws.{IsLawful}

pub laws_of : (d : AnyDecoding) → IsLawful d → AllLaws d
unfolding IsLawful
laws_of d all = all

pub bytes-append : (xs ys : List Entry) → bytes_of (xs ++ ys) ≡ bytes_of xs ++ bytes_of ys
bytes-append xs ys = flat_map-append (λ (p : Entry). p.piece.bytes) xs ys

pub bytes-snoc : (ps : List Entry) (n : ℕ) (p : Entry) → slice_get ps n ≡ Some p → bytes_of (take (suc n) ps) ≡ bytes_of (take n ps) ++ p.piece.bytes
bytes-snoc ps n p at = cc (take-next ps n p at, bytes-append (take n ps) (p ∷ []), append-nil p.piece.bytes)

pub bytes-next : (ps : List Entry) (n : ℕ) (p : Entry) → slice_get ps n ≡ Some p
    → length (bytes_of (take (suc n) ps)) ≡ length (bytes_of (take n ps)) + length p.piece.bytes
bytes-next ps n p at = ap length (bytes-snoc ps n p at) ∙ length-append (bytes_of (take n ps)) p.piece.bytes

pub renewed-bytes : (ps : List Entry) (rs : List Entry) → bytes_of (renewed ps rs) ≡ bytes_of ps
renewed-bytes ps [] = refl
renewed-bytes [] (r ∷ rs) = refl
renewed-bytes (p ∷ ps) (r ∷ rs) = ap (λ (bs : List ℕ). p.piece.bytes ++ bs) (renewed-bytes ps rs)

pub renewed-append : (xs ys : List Entry) (rs : List Entry) → length rs ≡ length xs → renewed (xs ++ ys) rs ≡ renewed xs rs ++ ys
renewed-append [] ys [] e = refl
renewed-append (x ∷ xs) ys (r ∷ rs) e = ap (λ (zs : List Entry). renew x r ∷ zs) (renewed-append xs ys rs (omega (arith, e)))
renewed-append xs ys rs e = absurd (omega (arith, e))

renewed-more : (xs : List Entry) (p : Entry) (rs : List Entry) (r : Entry) → length rs ≡ length xs
    → renewed (xs ++ p ∷ []) (rs ++ r ∷ []) ≡ renewed xs rs ++ renew p r ∷ []
renewed-more [] p [] r e = refl
renewed-more (x ∷ xs) p (q ∷ rs) r e = ap (λ (zs : List Entry). renew x q ∷ zs) (renewed-more xs p rs r (omega (arith, e)))
renewed-more xs p rs r e = absurd (omega (arith, e))

pub renewed-whole : (ps : List Entry) (rs : List Entry) → length rs ≤ length ps → renewed ps rs ≡ renewed (take (length rs) ps) rs ++ drop (length rs) ps
renewed-whole ps rs within =
    let n = length rs in
    cc (take-append-drop n ps, renewed-append (take n ps) (drop n ps) rs (sym (length-take-le n ps within)))

pub renewed-next : (ps rs more : List Entry) (p r : Entry) → more ≡ rs ++ r ∷ [] → slice_get ps (length rs) ≡ Some p
    → renewed (take (length more) ps) more ≡ renewed (take (length rs) ps) rs ++ renew p r ∷ []
renewed-next ps rs more p r more_is at =
    let within = slice_get_within ps (length rs) p at in
    let long = length-take-le (length rs) ps (omega (arith, within)) in
    cc (length-snoc rs more r more_is, take-next ps (length rs) p at, renewed-more (take (length rs) ps) p rs r (sym long))

-- a renewed piece with the same bytes is what the old one becomes
pub renew-same : (p r : Entry) → r.piece.bytes ≡ p.piece.bytes → renew p r ≡ r
renew-same p r e = ap (λ (bs : List ℕ). record { piece = record { bytes = bs; known = r.piece.known }; entry = r.entry }) (sym e)

pub renewed-are : (ps rs : List Entry) → AreRenewed ps rs → renewed ps rs ≡ rs ++ drop (length rs) ps
renewed-are ps [] h = refl
renewed-are [] (r ∷ rs) h = absurd h
renewed-are (p ∷ ps) (r ∷ rs) h = cc (renew-same p r h.0.bytes, renewed-are ps rs h.1)

pub renewed-on : (ps rs : List Entry) (p r : Entry) → AreRenewed ps rs → slice_get ps (length rs) ≡ Some p → IsRenewed p r → AreRenewed ps (rs ++ r ∷ [])
renewed-on [] [] p r h at e = absurd cc
renewed-on (x ∷ ps) [] p r h at e = let f : p ≡ x = cc in (rw f at e, tt)
renewed-on [] (q ∷ rs) p r h at e = absurd h
renewed-on (x ∷ ps) (q ∷ rs) p r h at e = (h.0, renewed-on ps rs p r h.1 at e)

module _ {d : AnyDecoding} (laws : Laws d) where
  pub state-append : (s : AnyState) (xs ys : List Entry) → state_after d s (xs ++ ys) ≡ state_after d (state_after d s xs) ys
  state-append s xs ys = cc (bytes-append xs ys, laws.parts s (bytes_of xs) (bytes_of ys))

  pub chain-append : (s : AnyState) (xs ys : List Entry) → Chain d s xs → Chain d (state_after d s xs) ys → Chain d s (xs ++ ys)
  chain-append s [] ys c more = subst (λ (t : AnyState). Chain d t ys) (laws.none s) more
  chain-append s (x ∷ xs) ys c more = (
    c.0,
    c.1,
    chain-append (feed (any d) s x.piece.bytes).state xs ys c.2
        (subst (λ (t : AnyState). Chain d t ys) (laws.parts s x.piece.bytes (bytes_of xs)) more),
  )

  pub chain-parts : (s : AnyState) (xs ys : List Entry) → Chain d s (xs ++ ys) → Chain d s xs × Chain d (state_after d s xs) ys
  chain-parts s [] ys c = (tt, rw (laws.none s) c)
  chain-parts s (x ∷ xs) ys c =
      let rest = chain-parts (feed (any d) s x.piece.bytes).state xs ys c.2 in
      ((c.0, c.1, rest.0), rw (laws.parts s x.piece.bytes (bytes_of xs)) rest.1)

  -- from a place on
  pub chain-drop : (s : AnyState) (n : ℕ) (ps : List Entry) → Chain d s ps → Chain d (state_after d s (take n ps)) (drop n ps)
  chain-drop s n ps c = (chain-parts s (take n ps) (drop n ps) (rw (take-append-drop n ps) c)).1

  pub state-drop : (s : AnyState) (n : ℕ) (ps : List Entry) → state_after d s ps ≡ state_after d (state_after d s (take n ps)) (drop n ps)
  state-drop s n ps = cc (take-append-drop n ps, state-append s (take n ps) (drop n ps))

  -- at a place
  at-place : (s : AnyState) (ps : List Entry) (n : ℕ) (p : Entry) → Chain d s ps → slice_get ps n ≡ Some p
      → Chain d (state_after d s (take n ps)) (p ∷ drop (suc n) ps)
  at-place s ps n p c at = rw (drop-next ps n p at) at (chain-drop s n ps c)

  pub entry-at : (s : AnyState) (ps : List Entry) (n : ℕ) (p : Entry) → Chain d s ps → slice_get ps n ≡ Some p → p.entry ≡ state_after d s (take n ps)
  entry-at s ps n p c at = (at-place s ps n p c at).0

  pub own-at : (s : AnyState) (ps : List Entry) (n : ℕ) (p : Entry) → Chain d s ps → slice_get ps n ≡ Some p → IsOwn d p
  own-at s ps n p c at = (at-place s ps n p c at).1

  pub state-next : (entry state exit : AnyState) (ps : List Entry) (n : ℕ) (p : Entry) → slice_get ps n ≡ Some p → state ≡ state_after d entry (take n ps)
      → exit ≡ (feed (any d) state p.piece.bytes).state → exit ≡ state_after d entry (take (suc n) ps)
  state-next entry state exit ps n p at state_is exit_is = cc (bytes-snoc ps n p at, laws.parts entry (bytes_of (take n ps)) p.piece.bytes)

  -- one more piece gone over
  pub next-chain : (entry state : AnyState) (ps : List Entry) (p : Entry) (rs more : List Entry) (r : Entry)
      → more ≡ rs ++ r ∷ [] → slice_get ps (length rs) ≡ Some p → Chain d entry (renewed (take (length rs) ps) rs)
      → state ≡ state_after d entry (take (length rs) ps) → r.entry ≡ state → IsOwn d r → r.piece.bytes ≡ p.piece.bytes
      → Chain d entry (renewed (take (length more) ps) more)
  next-chain entry state ps p rs more r more_is at chain state_is entry_is own same =
      let front = take (length rs) ps in
      rw (renewed-next ps rs more p r more_is at, renew-same p r same)
      (chain-append entry (renewed front rs) (r ∷ []) chain (cc (renewed-bytes front rs), own, tt))

  -- the meter after one more piece, which costs nothing if it was entered in the new state
  pub passed-on : (b : Bool) {entry state : AnyState} {ps : List Entry} (n : ℕ) {p : Entry} {old mid new : ℕ}
      → same_state p.entry state ≡ b → slice_get ps n ≡ Some p
      → state ≡ state_after d entry (take n ps) → Passed d entry ps old mid → mid ≤ old + length (bytes_of (take n ps))
      → (p.entry ≡ state → new ≡ mid) → new ≤ mid + length p.piece.bytes → Passed d entry ps old new
  passed-on true {entry} {state} {ps} n {p} {old} same at state_is passed most free here =
      subst (λ (m : ℕ). Passed d entry ps old m) (sym (free (laws.exact p.entry state same))) passed
  passed-on false {state = state} {ps = ps} n {p} unequal at state_is passed most free here = record {
    count = suc n;
    within = omega (arith, slice_get_within ps n p at);
    differs = λ j q e there same. let k : j ≡ n = omega (arith, e) in let met : p.entry ≡ state = cc in cc (laws.same state);
    most = omega (arith, most, here, bytes-next ps n p at);
  }

  -- the rest is unchanged
  pub rest-chains : (entry from : AnyState) (ps : List Entry) (p : Entry) (rs : List Entry) → slice_get ps (length rs) ≡ Some p → Chain d from ps
      → Chain d entry (renewed (take (length rs) ps) rs) → p.entry ≡ state_after d entry (take (length rs) ps) → Chain d entry (renewed ps rs)
  rest-chains entry from ps p rs at old chain same =
      let front = take (length rs) ps in
      let within = slice_get_within ps (length rs) p at in
      let met : p.entry ≡ state_after d from front = entry-at from ps (length rs) p old at in
      let here : state_after d from front ≡ state_after d entry (renewed front rs) = cc (renewed-bytes front rs) in
      let rest = chain-drop from (length rs) ps old in
      rw (renewed-whole ps rs (omega (arith, within))) (chain-append entry (renewed front rs) (drop (length rs) ps) chain (rw here at rest))

  -- states that are equal at a place are equal at the end
  pub same-end : (entry from : AnyState) (ps : List Entry) (n : ℕ) → state_after d from (take n ps) ≡ state_after d entry (take n ps)
      → state_after d from ps ≡ state_after d entry ps
  same-end entry from ps n same = cc (state-drop from n ps, state-drop entry n ps)
