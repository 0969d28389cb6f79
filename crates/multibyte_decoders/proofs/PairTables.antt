-- A pointer is the sum of what the tables of rows and columns have of a pair.
use Rattle.std.proofs.Common.{◌≡◌, ℕ, ◌+◌, ◌*◌, ◌<◌, Bool, true, false, ◌&&◌, List, slice_index_or, arith, refl, ◌∙◌, if◌then◌else◌}
use Rattle.std.proofs.lemmas.List.FromFn.{get_or-map-range_with_len}
use Rattle.multibyte_decoders.specs.Pairs.{PairRule, column_numbers, numbers, pair_pointer, row_numbers}

-- there are both if their sum is less than what means none
both-there : (k l j : Bool) (x y row column : ℕ) → row ≡ (if k && l then x else 0x8000) → column ≡ (if j then y else 0x8000) → row + column < 0x8000
    → (k ≡ true) × (l ≡ true) × (j ≡ true) × (row + column ≡ x + y)
both-there true true true x y row column r c low = (refl, refl, refl, omega (arith, r, c))
both-there true true false x y row column r c low = absurd (omega (arith, r, c, low))
both-there true false j x y row column r c low = absurd (omega (arith, r, low))
both-there false l j x y row column r c low = absurd (omega (arith, r, low))

-- what the table has of a byte
in-table : (has : ℕ → Bool) (number : ℕ → ℕ) (table : List ℕ) (b i d : ℕ) → table ≡ numbers has number → i ≡ b → b < 256
    → slice_index_or table i d ≡ (if has b then number b else 0x8000)
in-table has number table b i d is place below =
    rw (is, place) (get_or-map-range_with_len (λ b. if has b then number b else 0x8000) 0 256 b b d below (omega arith))

pub pointer-there : (rule : PairRule) (known : ℕ → Bool) (rows columns : List ℕ) → rows ≡ row_numbers rule known → columns ≡ column_numbers rule
    → (lead trail at_lead at_trail d e row column : ℕ) → at_lead ≡ lead → at_trail ≡ trail → lead < 256 → trail < 256
    → row ≡ slice_index_or rows at_lead d → column ≡ slice_index_or columns at_trail e → row + column < 0x8000
    → (rule.is_lead lead ≡ true) × (known lead ≡ true) × (rule.is_trail trail ≡ true) × (row + column ≡ pair_pointer rule lead trail)
pointer-there rule known rows columns are_rows are_columns lead trail at_lead at_trail d e row column lead_is trail_is lead_fits trail_fits
    row_is column_is low =
    both-there (rule.is_lead lead) (known lead) (rule.is_trail trail) (rule.row lead * rule.columns) (rule.column trail) row column
    (row_is ∙ in-table (λ b. rule.is_lead b && known b) (λ b. rule.row b * rule.columns) rows lead at_lead d are_rows lead_is lead_fits)
    (column_is ∙ in-table rule.is_trail rule.column columns trail at_trail e are_columns trail_is trail_fits) low
