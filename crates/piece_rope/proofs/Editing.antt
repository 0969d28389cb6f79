-- Lists of pieces, changed at a place, and pieces in the place of others.
use Rattle.piece_rope.proofs.Prelude.{◌≡◌, refl, ap, ◌∙◌, ℕ, zero, suc, ◌+◌, ◌<◌, ◌≤◌, List, [], ◌∷◌, ◌++◌, take, drop, length, arith, append_assoc, append-nil}
use Rattle.piece_rope.proofs.Prelude.{length-append, min, length-take-le, take_at, drop_at, remove, feed, AnyDecoding, AnyState, any, Entry, IsOwn, Chain}
use Rattle.piece_rope.proofs.Prelude.{bytes_of, state_after, AreSized, Laws, sym, subst, ◌-◌, length-drop, take-append-drop, with_run, drop-drop}
use Rattle.piece_rope.proofs.Prelude.{drop-append-add, take-append-le, AreRenewed, renewed, CanJoin, take-take}
use Rattle.piece_rope.proofs.Chaining.{bytes-append, chain-append, state-append, renewed-are}
use Rattle.piece_rope.proofs.Joining.{join-without, join-renewed}

-- a list put in where others were taken out
pub put-in : {X : Type 0} (xs zs ys : List X) (first : ℕ) → first ≤ length xs
    → take first (take first xs ++ ys) ++ (zs ++ drop first (take first xs ++ ys)) ≡ take first xs ++ (zs ++ ys)
put-in xs zs ys first l =
    let long = length-take-le first xs l in
    cc (take_at (take first xs) ys first long, drop_at (take first xs) ys first long)

pub removed-range : {X : Type 0} (xs : List X) (first a : ℕ) → first < length xs → first ≤ a
    → take first (remove xs first) ++ drop a (remove xs first) ≡ take first xs ++ drop (suc a) xs
removed-range (x ∷ xs) zero a less order = refl
removed-range (x ∷ xs) (suc first) (suc a) less order = ap (λ (ys : List _). x ∷ ys) (removed-range xs first a (omega (arith, less)) (omega (arith, order)))
removed-range xs first a less order = absurd (omega (arith, less, order))

pub sized-append : (least : ℕ) (xs ys : List Entry) → AreSized least xs → AreSized least ys → AreSized least (xs ++ ys)
sized-append least [] ys a b = b
sized-append least (x ∷ xs) ys a b = (a.0, a.1, sized-append least xs ys a.2 b)

pub metered-step : (start made part more meter new : ℕ) → min (start + made) 18446744073709551615 ≤ meter
    → new ≡ min (meter + part) 18446744073709551615 → more ≡ made + part → min (start + more) 18446744073709551615 ≤ new
metered-step start made part more meter new before now all = omega (arith, before, now, all)

pub added-length : (made more : List Entry) (p : Entry) (part : List ℕ) → more ≡ made ++ p ∷ [] → p.piece.bytes ≡ part
    → length (bytes_of more) ≡ length (bytes_of made) + length part
added-length made more p part more_is own =
    let all : bytes_of more ≡ bytes_of made ++ part = cc (bytes-append made (p ∷ []), append-nil p.piece.bytes) in
    ap length all ∙ length-append (bytes_of made) part

pub added-bytes : (made more : List Entry) (p : Entry) (part later rest bytes : List ℕ) → more ≡ made ++ p ∷ [] → p.piece.bytes ≡ part → rest ≡ part ++ later
    → bytes_of made ++ rest ≡ bytes → bytes_of more ++ later ≡ bytes
added-bytes made more p part later rest bytes more_is own cut all =
    cc (bytes-append made (p ∷ []), append-nil p.piece.bytes, append_assoc (bytes_of made) part later)

module _ {d : AnyDecoding} (laws : Laws d) where
  pub added-chain : (entry state : AnyState) (made more : List Entry) (p : Entry) (part : List ℕ) → more ≡ made ++ p ∷ [] → p.piece.bytes ≡ part
      → Chain d entry made → state ≡ state_after d entry made → p.entry ≡ state → IsOwn d p → Chain d entry more
  added-chain entry state made more p part more_is own chain state_is entry_is own_is =
      rw more_is (chain-append laws entry made (p ∷ []) chain (entry_is ∙ state_is, own_is, tt))

  pub added-state : (entry state exit : AnyState) (made more : List Entry) (p : Entry) (part : List ℕ) → more ≡ made ++ p ∷ [] → p.piece.bytes ≡ part
      → state ≡ state_after d entry made → exit ≡ (feed (any d) state part).state → exit ≡ state_after d entry more
  added-state entry state exit made more p part more_is own state_is exit_is = cc (append-nil p.piece.bytes, state-append laws entry made (p ∷ []))

pub none-before : (n m : ℕ) → 0 < m → (0 < n → m ≡ 0) → n ≡ 0
none-before zero m some h = refl
none-before (suc n) m some h = absurd (omega (arith, some, h (omega arith)))

-- a list that replaces a run after others
run-in : {X : Type 0} (xs ys zs : List X) (first n : ℕ) → first ≤ length xs → with_run (take first xs ++ ys) first (first + n) zs
    ≡ take first xs ++ (zs ++ drop n ys)
run-in xs ys zs first n l =
    let long = length-take-le first xs l in
    let far : first + n ≡ length (take first xs) + n = omega (arith, long) in
    let e : take first (take first xs ++ ys) ++ (zs ++ drop (first + n) (take first xs ++ ys)) ≡ take first xs ++ (zs ++ drop n ys) =
    cc (take_at (take first xs) ys first long, far, drop-append-add (take first xs) ys n) in
    e

-- renewed pieces replace the old ones
renewed-in : (ps rs : List Entry) (last end : ℕ) → end ≡ last + length rs → AreRenewed (drop last ps) rs
    → with_run ps last end rs ≡ take last ps ++ renewed (drop last ps) rs
renewed-in ps rs last end end_is are =
    let e : take last ps ++ (rs ++ drop end ps) ≡ take last ps ++ renewed (drop last ps) rs =
    cc (drop-drop (length rs) last ps, renewed-are (drop last ps) rs are) in
    e

-- others replace pieces before them
made-in : (ps fresh behind : List Entry) (first last : ℕ) → first ≤ last → last ≤ length ps
    → with_run (take last ps ++ behind) first last fresh ≡ take first ps ++ (fresh ++ behind)
made-in ps fresh behind first last order within =
    let long = length-take-le last ps within in
    let e : take first (take last ps ++ behind) ++ (fresh ++ drop last (take last ps ++ behind)) ≡ take first ps ++ (fresh ++ behind) =
    cc (take-append-le first (take last ps) behind (omega (arith, long, order)), take-take first last ps order, drop_at (take last ps) behind last long) in
    e

-- n removed before a run, which is replaced by others
exchanged-in : (ps back : List Entry) (first last n : ℕ) → first + n ≤ last → last ≤ length ps → (now : List Entry) → now ≡ take first ps ++ drop (last - n) ps
    → with_run now first (first + n) back ≡ take first ps ++ (back ++ drop last ps)
exchanged-in ps back first last n order within now now_is =
    let far : last - n + n ≡ last = omega (arith, order) in
    let rest : drop n (drop (last - n) ps) ≡ drop last ps = drop-drop n (last - n) ps ∙ ap (λ (m : ℕ). drop m ps) far in
    ap (λ (xs : List Entry). with_run xs first (first + n) back) now_is
    ∙ run-in ps (drop (last - n) ps) back first n (omega (arith, order, within))
    ∙ ap (λ (xs : List Entry). take first ps ++ (back ++ xs)) rest

-- n pieces were removed before others, of the pieces from `first` to `last`, which new ones are to replace
pub record IsCut (ps fresh now : List Entry) (first last n : ℕ) : Type 0 where
  pub order : first ≤ last
  pub within : last ≤ length ps
  pub count : n ≡ min (length fresh) (last - first)
  pub now_is : now ≡ take first ps ++ drop (last - n) ps

module _ {ps fresh now : List Entry} {first last n : ℕ} (cut : IsCut ps fresh now first last n) where
  -- the last of the pieces, and the others
  abbrev back : List Entry
  back = drop (length fresh - (first + n - first)) fresh

  abbrev front : List Entry
  front = take (length fresh - (first + n - first)) fresh

  first-length : length (take first ps) ≡ first
  first-length = length-take-le first ps (omega (arith, cut.order, cut.within))

  put : with_run now first (first + n) back ≡ take first ps ++ (back ++ drop last ps)
  put = exchanged-in ps back first last n (omega (arith, cut.count, cut.order)) cut.within now cut.now_is

  in-two : with_run ps first last fresh ≡ take first ps ++ (front ++ (back ++ drop last ps))
  in-two =
      let all = take-append-drop (length fresh - (first + n - first)) fresh in
      ap (λ (xs : List Entry). take first ps ++ (xs ++ drop last ps)) (sym all)
      ∙ ap (λ (xs : List Entry). take first ps ++ xs) (append_assoc front back (drop last ps))

  -- the run can be put in
  pub join-put : CanJoin (with_run ps first last fresh) → CanJoin (with_run now first (first + n) back)
  join-put new = subst (λ (xs : List Entry). CanJoin xs) (sym put)
      (join-without (take first ps) front (back ++ drop last ps) (subst (λ (xs : List Entry). CanJoin xs) in-two new))

  -- and the others before it, which are all then
  pub all-put : {more rest : List Entry} → more ≡ with_run now first (first + n) back → rest ≡ front → take first more ++ (rest ++ drop first more)
      ≡ with_run ps first last fresh
  all-put {more} {rest} more_is rest_is =
      let seen : more ≡ take first ps ++ (back ++ drop last ps) = more_is ∙ put in
      ap (λ (xs : List Entry). take first xs ++ (rest ++ drop first xs)) seen
      ∙ put-in ps rest (back ++ drop last ps) first (omega (arith, cut.order, cut.within))
      ∙ ap (λ (xs : List Entry). take first ps ++ (xs ++ (back ++ drop last ps))) rest_is
      ∙ sym in-two

  pub long-put : {more : List Entry} → more ≡ with_run now first (first + n) back → first ≤ length more
  long-put more_is = omega (arith, ap length (more_is ∙ put), length-append (take first ps) (back ++ drop last ps), first-length)

  pub long-left : first + n ≤ length now
  long-left = omega (arith, ap length cut.now_is, length-append {A = Entry}, first-length, length-drop (last - n) ps)

  pub long-front : length front + n ≡ length fresh
  long-front = omega (arith, length-take-le (length fresh - (first + n - first)) fresh (omega arith), cut.count)

  pub long-all : length (with_run ps first last fresh) + last ≡ length ps + first + length fresh
  long-all =
      let e : length (take first ps ++ (fresh ++ drop last ps)) + last ≡ length ps + first + length fresh =
      omega (arith, length-append {A = Entry}, first-length, length-drop last ps, cut.order, cut.within) in
      e

-- the renewed pieces replace those after an edit, of which there are n, and then others replace those before them
pub record IsInstall (ps fresh rs : List Entry) (first last n : ℕ) : Type 0 where
  pub order : first ≤ last
  pub within : last + length rs ≤ length ps
  pub count : n ≡ length rs
  pub are : AreRenewed (drop last ps) rs
  pub old : CanJoin ps
  pub new : CanJoin (take first ps ++ (fresh ++ renewed (drop last ps) rs))

module _ {ps fresh rs : List Entry} {first last n : ℕ} (install : IsInstall ps fresh rs first last n) where
  later-in : with_run ps last (last + n) rs ≡ take last ps ++ renewed (drop last ps) rs
  later-in = renewed-in ps rs last (last + n) (omega (arith, install.count)) install.are

  pub join-later : CanJoin (with_run ps last (last + n) rs)
  join-later = subst (λ (xs : List Entry). CanJoin xs) (sym later-in) (join-renewed ps fresh rs first last install.within install.old install.new)

  pub all-made : {now : List Entry} → now ≡ with_run ps last (last + n) rs → with_run now first last fresh
      ≡ take first ps ++ (fresh ++ renewed (drop last ps) rs)
  all-made now_is =
      ap (λ (xs : List Entry). with_run xs first last fresh) (now_is ∙ later-in)
      ∙ made-in ps fresh (renewed (drop last ps) rs) first last install.order (omega (arith, install.within))

  pub long-later : {now : List Entry} → now ≡ with_run ps last (last + n) rs → length now ≡ length ps
  long-later {now} now_is =
      let seen : now ≡ take last ps ++ (rs ++ drop (last + n) ps) = now_is in
      let long = length-take-le last ps (omega (arith, install.within)) in
      omega (arith, ap length seen, length-append {A = Entry}, long, length-drop (last + n) ps, install.count, install.within)
