-- Indexes at the places of their kinds.
use Rattle.std.proofs.Common.{◌≡◌, ◌<◌, ℕ, zero, suc, true, [], ◌∷◌, List, get_or, set, replicate, Bor, Option, Some, None, IfSome, MatchOption, option_copied}
use Rattle.std.proofs.Common.{refl, sym, ◌∙◌, ◌⊎◌, inl, inr, ⊎_elim, arith, option_map, rules}
use Rattle.std.proofs.{Math.ListN.get_or-map, lemmas.List.Quantifiers.position-Some}
use Rattle.index_loader.proofs.Prelude.{IndexKind, Jis0208, ExceptionTable, Loaded, home_of, kinds, same_kind, slot_of}
use Rattle.index_loader.specs.{Files.index_of, Slots.AreInTheirSlots, Slots.kind_at, Slots.pairs_kept}

one_kind : (a b : IndexKind) → same_kind a b ≡ true → a ≡ b
one_kind a b same = Prim.search rules

-- the places are those of 34 kinds
pub slot-small : (kind : IndexKind) (o : Option ℕ) → o ≡ slot_of kind → IfSome o (λ slot. slot < 34)
unfolding slot_of
slot-small kind (Some slot) is = (position-Some (same_kind (home_of kind)) kinds slot Jis0208 (sym is)).0
slot-small kind None is = tt

-- each kind is at its place among the kinds
kind-at : (kind : IndexKind) (slot : ℕ) → slot_of kind ≡ Some slot → kind_at slot ≡ home_of kind
unfolding slot_of kind_at
kind-at kind slot place = sym (one_kind (home_of kind) (kind_at slot) (position-Some (same_kind (home_of kind)) kinds slot Jis0208 place).1)

-- what is at a place after another was put somewhere
at-put : (slots : List (Option Loaded)) (slot k : ℕ) (new : Option Loaded) (other : Loaded)
    → get_or (set slots slot new) k None ≡ Some other → ((k ≡ slot) × (new ≡ Some other)) ⊎ (get_or slots k None ≡ Some other)
at-put [] slot k new other is = inr is
at-put (first ∷ slots) zero zero new other is = inl (refl, is)
at-put (first ∷ slots) zero (suc k) new other is = inr is
at-put (first ∷ slots) (suc slot) zero new other is = inr is
at-put (first ∷ slots) (suc slot) (suc k) new other is = grind (arith, at-put slots slot k new other is)

-- an index put at the place of its kind
pub kept-put : (slots : List (Option Loaded)) (index : Loaded) (slot : ℕ) → AreInTheirSlots slots → home_of index.kind ≡ index.kind
    → slot_of index.kind ≡ Some slot → AreInTheirSlots (set slots slot (Some index))
kept-put slots index slot kept home place k other is =
    ⊎_elim
    (λ (put : (k ≡ slot) × (Some index ≡ Some other)). let that : index ≡ other = cc in rw (← that, put.0) (sym (kind-at index.kind slot place ∙ home)))
    (λ (old : get_or slots k None ≡ Some other). kept k other old)
    (at-put slots slot k (Some index) other is)

-- what a look at a place finds
pub index-at : (exceptions : ExceptionTable) (slots : List (Option Loaded)) (kind : IndexKind) (slot : ℕ) (found : Option (Bor Loaded))
    → AreInTheirSlots slots → slot_of kind ≡ Some slot → option_copied found ≡ get_or slots slot None
    → MatchOption found (index_of (record { slots = pairs_kept slots; exceptions = exceptions }) kind ≡ None)
    (λ index. index_of (record { slots = pairs_kept slots; exceptions = exceptions }) kind ≡ Some index.now)
index-at exceptions slots kind slot None kept place is = rw (place, get_or-map (option_map (λ index. index.pairs)) slots slot None, ← is)
index-at exceptions slots kind slot (Some index) kept place is =
    let home : index.now.kind ≡ home_of kind = kept slot index.now (sym is) ∙ kind-at kind slot place in
    rw (place, get_or-map (option_map (λ index. index.pairs)) slots slot None, ← is, ← home)

-- an empty place
pub none-at : (n k : ℕ) → get_or {A = Option Loaded} (replicate n None) k None ≡ None
none-at zero k = refl
none-at (suc n) zero = refl
none-at (suc n) (suc k) = none-at n k
