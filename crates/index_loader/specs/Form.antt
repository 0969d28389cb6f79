-- UTF-8 forms, each as one number.
use Rattle.std.specs.Prelude.{◌≡◌, ℕ, ◌+◌, ◌*◌, ◌/◌, ◌%◌, ◌<◌, nat_lt, nat_le, Bool, true, false, List, [], ◌∷◌, ◌++◌, take, slice_index_or, Option, Some, None}
use Rattle.std.specs.{Prelude.IfSome, Prelude.if◌then◌else◌, Char.IsScalar, Char.len_utf8, Char.encode_utf8}

-- The number of a code point. Its lowest three bytes are the first three of the form (Unicode, chapter 3, D92), the first one lowest. The highest is
-- the fourth byte of the form if it has four; otherwise it says how many there are.
abbrev pub form_number : ℕ → ℕ
form_number c =
    if nat_lt c 0x80 then 0x100_0000 + c
    else if nat_lt c 0x800 then 0x200_0000 + 0x100 * (0x80 + c % 0x40) + (0xC0 + c / 0x40)
    else if nat_lt c 0x1_0000 then 0x300_0000 + 0x1_0000 * (0x80 + c % 0x40) + 0x100 * (0x80 + c / 0x40 % 0x40) + (0xE0 + c / 0x1000)
    else 0x100_0000 * (0x80 + c % 0x40) + 0x1_0000 * (0x80 + c / 0x40 % 0x40) + 0x100 * (0x80 + c / 0x1000 % 0x40) + (0xF0 + c / 0x4_0000)

-- and of none
abbrev pub number_of : Option ℕ → ℕ
number_of None = 0
number_of (Some c) = form_number c

-- the code point of a number
abbrev pub code_point_in : ℕ → Option ℕ
code_point_in n =
    if nat_lt n 0x100_0000 then None
    else if nat_lt n 0x200_0000 then Some (n % 0x80)
    else if nat_lt n 0x300_0000 then Some (n % 0x40 * 0x40 + n / 0x100 % 0x40)
    else if nat_lt n 0x400_0000 then Some (n % 0x10 * 0x1000 + n / 0x100 % 0x40 * 0x40 + n / 0x1_0000 % 0x40)
    else Some (n % 0x10 * 0x4_0000 + n / 0x100 % 0x40 * 0x1000 + n / 0x1_0000 % 0x40 * 0x40 + n / 0x100_0000 % 0x40)

-- the number is that of a code point, or of none
pub record IsForm (n : ℕ) : Type 0 where
  pub scalar : IfSome (code_point_in n) (λ c. IsScalar c)
  pub number : n ≡ number_of (code_point_in n)

-- there is a code point, and its form has more than one byte
abbrev pub is_wide : Option ℕ → Bool
is_wide None = false
is_wide (Some c) = nat_le 0x80 c

-- there is a code point, and its form has three bytes at most
abbrev pub is_short : Option ℕ → Bool
is_short None = false
is_short (Some c) = nat_lt c 0x1_0000

-- each of 256 has such a form
abbrev pub AreShort : List (Option ℕ) → Type 0
AreShort forms = (byte : ℕ) → byte < 0x100 → is_short (slice_index_or forms byte None) ≡ true

-- the code points of all bytes, if those of the bytes 80 to FF are these
pub record IsByteTable (places forms : List (Option ℕ)) : Type 0 where
  pub ascii : (byte : ℕ) → byte < 0x80 → slice_index_or forms byte None ≡ Some byte
  pub high : (place : ℕ) → place < 0x80 → slice_index_or forms (place + 0x80) None ≡ slice_index_or places place None

-- the lowest bytes of a number were written from an index on
pub record AreFronts (before after : List ℕ) (at n : ℕ) : Type 0 where
  pub one : take (at + 1) after ≡ take at before ++ n % 0x100 ∷ []
  pub two : take (at + 2) after ≡ take at before ++ n % 0x100 ∷ n / 0x100 % 0x100 ∷ []
  pub three : take (at + 3) after ≡ take at before ++ n % 0x100 ∷ n / 0x100 % 0x100 ∷ n / 0x1_0000 % 0x100 ∷ []

-- the form of a code point was written at an index of a text, and ends there; nothing is said of what follows it
pub record IsFormPut (form : Option ℕ) (before after : List ℕ) (at end : ℕ) : Type 0 where
  pub code_point : ℕ
  pub is : form ≡ Some code_point
  pub scalar : IsScalar code_point
  pub ends : end ≡ at + len_utf8 code_point
  pub front : take end after ≡ take at before ++ encode_utf8 code_point
