-- The lines of a file of exceptions in the form that most have.
use Rattle.std.proofs.Common.{◌≡◌, ℕ, ◌==◌, Bool, true, false, List, ◌∷◌, length, Option, Some, None, Ok, if◌then◌else◌, option_and_then, IfSome, arith, refl}
use Rattle.std.proofs.{Common.sym, lemmas.Option.option_and_then_some}
use Rattle.index_loader.proofs.Prelude.{is_digit, list_all, as_pair, bytes_behind, bytes_in, exception_in, fields_of, number_in, IsNumberFirst, as_scalar}
use Rattle.index_loader.proofs.PlainLemmas.{code_point-plain, digits-of, digits-other, fields-alone, stripped-same}

-- a text of two bytes is digits alone
digits-of_bytes : (text bytes : List ℕ) → bytes_in text ≡ Some bytes → list_all (λ b. is_digit b 16) text ≡ true
digits-of_bytes text bytes is = go (length text == 4) is where
  go : (b : Bool) → (if b then option_and_then as_pair (number_in 16 text) else None) ≡ Some bytes → list_all (λ b. is_digit b 16) text ≡ true
  go true same = option_and_then_some as_pair (number_in 16 text) bytes same (λ n e f. digits-of 16 text n e)
  go false same = absurd (cc)

-- the two bytes up to the end of the text
pub bytes-alone : (text : List ℕ) (o : Option (List ℕ)) → o ≡ bytes_in text → IfSome o (λ bytes. bytes_behind (fields_of text) ≡ Some bytes)
bytes-alone text None is = tt
bytes-alone text (Some bytes) is =
    let digits = digits-of_bytes text bytes (sym is) in
    rw (fields-alone 16 text (omega arith) digits, stripped-same text (digits-other 16 0x20 text (omega arith) refl digits)) (sym is)

-- the exception of a line whose first field is `0x` and digits
pub exception-plain : (text digits behind bytes : List ℕ) (n c : ℕ) → text ≡ 0x30 ∷ 0x78 ∷ digits
    → IsNumberFirst 16 (fields_of digits) n (fields_of behind) → bytes_behind (fields_of behind) ≡ Some bytes → as_scalar n ≡ Some c
    → exception_in (fields_of text) ≡ Ok (Some (c, bytes))
exception-plain text digits behind bytes n c prefix number second scalar =
    rw (prefix, number.first, code_point-plain (fields_of behind) number.digits n c number.numeral scalar, second) refl
