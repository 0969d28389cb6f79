-- Lines in the form that index files are written in: fields of digits alone.
use Rattle.std.specs.Prelude.{◌≡◌, ℕ, ◌*◌, ◌≤◌, List, ◌∷◌, Some, true}
use Rattle.std.specs.{Char.is_digit, List.list_all, Str.Parse.digits_value}
use Rattle.index_loader.specs.Lines.{behind_spaces, fields_of, number_in}

-- the first of the fields is a text of digits, of this number, and the others are these
pub record IsNumberFirst (base : ℕ) (fields : List (List ℕ)) (number : ℕ) (others : List (List ℕ)) : Type 0 where
  pub digits : List ℕ
  pub first : fields ≡ digits ∷ others
  pub numeral : number_in base digits ≡ Some number

-- and the others may be any
pub record HasNumberFirst (base : ℕ) (fields : List (List ℕ)) (number : ℕ) : Type 0 where
  pub others : List (List ℕ)
  pub first : IsNumberFirst base fields number others

-- the first field of a text is a pointer in digits, and the second begins with `0x`, which this follows
pub record IsPointerFirst (text : List ℕ) (pointer : ℕ) (digits : List ℕ) : Type 0 where
  pub behind : List ℕ
  pub prefix : behind ≡ 0x30 ∷ 0x78 ∷ digits
  pub first : IsNumberFirst 10 (fields_of text) pointer (fields_of behind)

-- places of a pointer before its last digit: spaces and then digits, whose number is a tenth of this one
pub record IsTens (places : List ℕ) (number : ℕ) : Type 0 where
  pub digits : list_all (λ b. is_digit b 10) (behind_spaces places) ≡ true
  pub value : number ≡ digits_value 10 (behind_spaces places) * 10
  pub small : number ≤ 100000
