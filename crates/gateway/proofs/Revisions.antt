-- A revision in decimal, and a name.
use Rattle.std.proofs.Common.{◌≡◌, ℕ, ◌<◌, ◌≤◌, ◌&&◌, Bool, true, false, nat_le, nat_lt, List, length, None, Some, if◌then◌else◌, refl, sym, ap, ◌∙◌, subst}
use Rattle.std.proofs.{Common.arith, Common.decimal, Common.bytes_eq, Common.le-leb, Common.leb-true, Common.lt-ltb, lemmas.Slice.Eq.bytes_eq-Decides}
use Rattle.std.proofs.lemmas.{Str.IsUtf8-from_is_utf8, Str.is_utf8-from_IsUtf8, Bool.and_parts, Bool.false_from_ne_true, Fmt.decimal_is_IsNumeral}
use Rattle.std.specs.Str.{Parse.digits_value, IsUtf8, is_utf8}
use Rattle.desk.specs.Documents.{max_number}
use Rattle.gateway.specs.Head.{as_name}
unfoldable use Rattle.gateway.specs.Head.{revision_in}

none_by : (n : ℕ) (a b : Bool) → (a ≡ true → b ≡ true → ⊥) → None ≡ (if a && b then Some n else None)
none_by n true true h = absurd (h refl refl)
none_by n true false h = refl
none_by n false b h = refl

-- a word that no revision is written as
pub no_revision : (word : List ℕ) → ((n : ℕ) → n ≤ max_number → bytes_eq (decimal n) word ≡ false) → None ≡ revision_in word
unfolding revision_in
no_revision word h =
    none_by (digits_value 10 word) (bytes_eq (decimal (digits_value 10 word)) word) (nat_le (digits_value 10 word) max_number) (λ is small.
    let other = h (digits_value 10 word) (leb-true _ _ small) in cc)

pub this_revision : (n : ℕ) (word : List ℕ) → (bytes_eq (decimal n) word && nat_le n max_number) ≡ true → Some n ≡ revision_in word
unfolding revision_in
this_revision n word is =
    let both = and_parts (bytes_eq (decimal n) word) (nat_le n max_number) is in
    let small : n ≤ max_number = leb-true n max_number both.1 in
    let written : digits_value 10 word ≡ digits_value 10 (decimal n) = ap (digits_value 10) (sym ((bytes_eq-Decides (decimal n) word).0 both.0)) in
    rw (written ∙ (decimal_is_IsNumeral n (omega (arith, small))).1, both.0, both.1)

-- ---- a name

pub named_ok : (bs cs : List ℕ) → cs ≡ bs → IsUtf8 cs → 0 < length bs → length bs ≤ 64 → Some cs ≡ as_name bs
named_ok bs cs same utf8 some small =
    rw (lt-ltb 0 (length bs) some, le-leb (length bs) 64 small, is_utf8-from_IsUtf8 bs (subst IsUtf8 same utf8)) (ap Some same)

not_named : (a b c : Bool) (bs : List ℕ) → c ≡ false → None ≡ (if a && (b && c) then Some bs else None)
not_named true true true bs e = cc
not_named true true false bs e = refl
not_named true false c bs e = refl
not_named false b c bs e = refl

pub named_not : (bs : List ℕ) → ¬ IsUtf8 bs → None ≡ as_name bs
named_not bs other =
    not_named (nat_lt 0 (length bs)) (nat_le (length bs) 64) (is_utf8 bs) bs (false_from_ne_true _ (λ is. other (IsUtf8-from_is_utf8 bs is)))
