-- What a sink is shown are the items of a feed, whatever it makes of them.
use Rattle.std.proofs.Common.{◌≡◌, refl, ap, ◌∙◌, ℕ, ◌+◌, ◌-◌, ◌^◌, ◌<◌, List, [], ◌∷◌, arith, fold, ℤ, pos, ◌+ℤ◌, ◌-ℤ◌}
use Rattle.std.proofs.lemmas.Int.{ints}
use Rattle.std.specs.Int.{saturate_unsigned, w64}
use Rattle.decoder_core.specs.declared.item.{Item.Item, Ended.Ended}
use Rattle.decoder_core.specs.Shown.{Shown, ended_at, shown_items}

module _ {K : Type 0} (with_item : K → Item → ℤ → K) where
  abbrev with_at : K → Item × ℤ → K
  with_at k x = with_item k x.0 x.1

  shown-at : {S : Type 0} (k : K) (xs : List (Shown S)) → fold (λ (h : K) (x : Shown S). with_item h x.item x.end) k xs ≡ fold with_at k (shown_items xs)
  shown-at k [] = refl
  shown-at k (x ∷ xs) = shown-at (with_item k x.item x.end) xs

  at-ended : (read : ℕ) (k : K) (es : List Ended) → fold with_at k (ended_at read es)
      ≡ fold (λ (h : K) (e : Ended). with_item h e.item (pos read -ℤ pos e.back)) k es
  at-ended read k [] = refl
  at-ended read k (e ∷ es) = at-ended read (with_item k e.item (pos read -ℤ pos e.back)) es

  pub shown-ended : {S : Type 0} (read : ℕ) (k : K) (xs : List (Shown S)) (es : List Ended) → shown_items xs ≡ ended_at read es
      → fold (λ (h : K) (x : Shown S). with_item h x.item x.end) k xs ≡ fold (λ (h : K) (e : Ended). with_item h e.item (pos read -ℤ pos e.back)) k es
  shown-ended read k xs es is = shown-at k xs ∙ ap (fold with_at k) is ∙ at-ended read k es

-- where an item of a part ends, among all bytes
pub placed-at : (base read back : ℕ) → base + read < 2 ^ 64 → saturate_unsigned w64 (pos base +ℤ (pos read -ℤ pos back)) ≡ base + read - back
placed-at base read back bound = grind (arith, ints)
