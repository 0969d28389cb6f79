-- Proofs that a trait asks for; there is nothing to believe here. Pointers that are looked up in bulk give one code point each.
use Rattle.std.specs.Prelude.{◌≡◌, ℕ, ◌+◌, ◌-◌, ◌*◌, ◌≤◌, ◌==◌, Bool, true, false, not, nat_lt, Option, if◌then◌else◌}
use Rattle.std.proofs.{Common.arith, Common.refl, lemmas.Bool.ne_eqb, lemmas.Bool.Decides.nat_tests}
use Rattle.decoder_core.specs.Forms.{within}
use Rattle.multibyte_decoders.specs.PairRules.Big5.{big5, is_big5_trail}
use Rattle.multibyte_decoders.specs.{Pairs.PairRule, Pairs.one_of, Pairs.pair_pointer, PairRules.ShiftJis.is_shift_jis_trail, PairRules.ShiftJis.shift_jis}

-- in these rows each pointer's item is the code point that the index has
abbrev pub IsPlainIn : PairRule → (ℕ → Bool) → Type 0
IsPlainIn rule known = (index : ℕ → Option ℕ) (lead b : ℕ) → known lead ≡ true → rule.is_trail b ≡ true
    → rule.item index (pair_pointer rule lead b) ≡ one_of (index (pair_pointer rule lead b))

-- outside the row of 88 no pointer of Big5 gives two code points
abbrev pub big5_known : ℕ → Bool
big5_known lead = not (within 0x88 0x88 lead)

big5_column : (b : ℕ) → is_big5_trail b ≡ true → b - (if nat_lt b 0x7F then 0x40 else 0x62) ≤ 156
big5_column b trail = Prim.grind (arith, nat_tests)

big5_far : (lead column p n : ℕ) → big5_known lead ≡ true → column ≤ 156 → p ≡ (lead - 0x81) * 157 + column → 1133 ≤ n → n ≤ 1166 → (p == n) ≡ false
big5_far lead column p n other few is low high = ne_eqb p n (λ same. Prim.grind (arith, nat_tests))

pub big5_plain : IsPlainIn big5 big5_known
big5_plain index lead b other trail =
    let others = λ (n : ℕ). big5_far lead _ (pair_pointer big5 lead b) n other (big5_column b trail) refl in
    Prim.rw (
      others 1133 (Prim.omega arith) (Prim.omega arith),
      others 1135 (Prim.omega arith) (Prim.omega arith),
      others 1164 (Prim.omega arith) (Prim.omega arith),
      others 1166 (Prim.omega arith) (Prim.omega arith),
    ) refl

-- before the row of F0 no pointer of Shift_JIS is of private use
abbrev pub shift_jis_known : ℕ → Bool
shift_jis_known lead = nat_lt lead 0xF0

shift_jis_column : (b : ℕ) → is_shift_jis_trail b ≡ true → b - (if nat_lt b 0x7F then 0x40 else 0x41) ≤ 187
shift_jis_column b trail = Prim.grind (arith, nat_tests)

shift_jis_row : (lead : ℕ) → shift_jis_known lead ≡ true → lead - (if nat_lt lead 0xA0 then 0x81 else 0xC1) ≤ 46
shift_jis_row lead known = Prim.grind (arith, nat_tests)

below : (row column p : ℕ) → row ≤ 46 → column ≤ 187 → p ≡ row * 188 + column → within 8836 10715 p ≡ false
below row column p few short is = Prim.grind (arith, nat_tests)

pub shift_jis_plain : IsPlainIn shift_jis shift_jis_known
shift_jis_plain index lead b known trail =
    Prim.rw (below _ _ (pair_pointer shift_jis lead b) (shift_jis_row lead known) (shift_jis_column b trail) refl) refl
