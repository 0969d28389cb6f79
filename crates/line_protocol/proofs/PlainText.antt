-- Text that JSON writes as it is.
use Rattle.std.proofs.Common.{◌≡◌, ℕ, true, List, [], ◌∷◌, ◌++◌, refl, arith, append_assoc}
use Rattle.line_protocol.proofs.Prelude.{escape, quoted, escape_byte, is_plain, all_plain}
use Rattle.std.proofs.lemmas.{Bool.and_parts, Bool.Decides.nat_tests}

escape_byte-plain : (b : ℕ) → is_plain b ≡ true → escape_byte b ≡ b ∷ []
unfolding escape_byte
escape_byte-plain b h = grind (arith, nat_tests)

pub escape-plain : (s : List ℕ) → all_plain s ≡ true → escape s ≡ s
escape-plain [] h = refl
escape-plain (b ∷ bs) h =
    let plain = and_parts (is_plain b) (all_plain bs) h in
    rw (escape_byte-plain b plain.0, escape-plain bs plain.1)

-- a text between two quotes
pub quoted-after : (old s : List ℕ) → all_plain s ≡ true → ((old ++ 34 ∷ []) ++ s) ++ 34 ∷ [] ≡ old ++ quoted s
quoted-after old s h = rw (escape-plain s h) (simp append_assoc)
