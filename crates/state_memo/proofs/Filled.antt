-- Places for outcomes of which none is free.
use Rattle.std.proofs.Common.{◌≡◌, refl, sym, ap, ◌∙◌, ℕ, suc, ◌≤◌, ◌<◌, List, [], ◌∷◌, length, take, map, get_or, arith, Option, Some, None}
use Rattle.std.proofs.Common.{option_map, slice_get}
use Rattle.std.proofs.lemmas.{List.take-map, List.drop-map, List.length-map, Option.slice_get-map}
use Rattle.state_memo.specs.Slots.{filled, known_in, AreFilled}
use Rattle.state_memo.specs.declared.slot.Slot.{Slot, TheVariants.Free, TheVariants.Known as known}
use Rattle.state_memo.proofs.Prelude.{remove, map-append, slice_get_read, AnyState, Outcome, Known, Memo}

known-filled : (ks : List Known) → known_in (map filled ks) ≡ ks
known-filled [] = refl
known-filled (k ∷ ks) = ap (λ (rest : List Known). k ∷ rest) (known-filled ks)

read : Option Slot → Option Known
read None = None
read (Some Free) = None
read (Some (known s o)) = Some (record { entry = s; outcome = o })

read-filled : (r : Option Known) → read (option_map filled r) ≡ r
unfolding read
read-filled None = refl
read-filled (Some k) = refl

free-by : (r : Option Known) → option_map filled r ≡ Some Free → ⊥
free-by None e = absurd cc
free-by (Some k) e = let same : filled k ≡ Free = cc in absurd cc

module _ (slots : List Slot) (ks : List Known) (here : slots ≡ map filled ks) where
  pub known-by : known_in slots ≡ ks
  known-by = ap known_in here ∙ known-filled ks

  pub filled-by : AreFilled slots
  filled-by = here ∙ ap (λ (same : List Known). map filled same) (sym known-by)

  length-by : length slots ≡ length ks
  length-by = ap (λ (same : List Slot). length same) here ∙ length-map ks filled

  pub few-by : length slots ≤ 4 → length ks ≤ 4
  few-by few = omega (arith, few, length-by)

  pub within-by : (i : ℕ) → i < length ks → i < length slots
  within-by i within = omega (arith, within, length-by)

  pub taken-by : (n : ℕ) → take n slots ≡ map filled (take n ks)
  taken-by n = ap (λ (same : List Slot). take n same) here ∙ take-map filled n ks

  pub removed-by : (i : ℕ) → remove slots i ≡ map filled (remove ks i)
  removed-by i =
      rw (here, take-map filled i ks, drop-map filled (suc i) ks, map-append) refl

  module _ (i : ℕ) (slot : Slot) (within : i < length slots) (is : slot ≡ get_or slots i slot) where
    read-is : option_map filled (slice_get ks i) ≡ Some slot
    read-is = rw (← slice_get-map filled ks i, ← here) (slice_get_read slots (length slots) i slot refl within is)

    pub known-at : (s : AnyState) (o : Outcome) → slot ≡ known s o → slice_get ks i ≡ Some (record { entry = s; outcome = o })
    unfolding read
    known-at s o same = sym (read-filled (slice_get ks i)) ∙ ap read (read-is ∙ ap Some same)

    pub none-free : slot ≡ Free → ⊥
    none-free same = free-by (slice_get ks i) (read-is ∙ ap Some same)

module _ (bytes : List ℕ) (slots : List Slot) (piece : Memo) (view : ◌≡◌ {A = Memo} (record { bytes = bytes; known = known_in slots }) piece) where
  -- the places of a piece
  pub places-of : AreFilled slots → slots ≡ map filled piece.known
  places-of full = full ∙ ap (λ (m : Memo). map filled m.known) view

  -- the piece with others
  pub seen-with : (others : List Slot) (ks : List Known) → others ≡ map filled ks
      → ◌≡◌ {A = Memo} (record { bytes = bytes; known = known_in others }) (record { bytes = piece.bytes; known = ks })
  seen-with others ks here = λ i. record { bytes = (view i).bytes; known = known-by others ks here i }
