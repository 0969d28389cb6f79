-- What a decoder does that looks for a byte order mark first.
use Rattle.std.proofs.Common.{◌≡◌, refl, sym, ap, subst, ◌∙◌, ℕ, false, ◌==◌, List, [], ◌∷◌, ◌++◌, Option, Some, None, option_map, inl, inr, unwrap_or}
use Rattle.std.proofs.lemmas.Bool.Decides.{eqb_tells}
use Rattle.codec.proofs.Prelude.{Bom, Sniff, Keep, Prefix, Nothing, Ef, EfBb, Fe, Ff, AnyState, in_sniffing, in_utf8, in_utf16_be, in_utf16_le, Mark, mark_of}
use Rattle.codec.proofs.Prelude.{if_sniffed, prefix_bytes, prefix_of, sniffing}
use Rattle.decoder_core.specs.{Utf8.utf8_start, Utf16.utf16_start}

by_byte : (P : ℕ → Type 0) (k b : ℕ) → P k → ((b == k) ≡ false → (k == b) ≡ false → P b) → P b
by_byte P k b hit miss = elim (eqb_tells b k) [
  | inl same ↦ subst P (sym same.1) hit
  | inr other ↦ elim (eqb_tells k b) [ inl same ↦ absurd (other.1 (sym same.1)) | inr turned ↦ miss other.0 turned.0 ]
]

-- what holds of nothing and of what is found holds of what counts
pub by_bom : {A : Type 0} (P : Option A → Type 0) (bom : Bom) (found : Option A) → P None → P found → P (if_sniffed bom found)
by_bom P Sniff found none some = some
by_bom P Keep found none some = none

-- if no mark is looked for, the encoding's own decoder begins at once
pub begun : {A : Type 0} (start : AnyState) (at : AnyState → A) (wanted : Option Prefix → Option Mark → A) (bom : Bom)
    (prefix : Option Prefix) (mark : Option Mark) → at (in_sniffing Nothing) ≡ wanted prefix mark → at start ≡ wanted None None
    → at (unwrap_or (option_map in_sniffing (if_sniffed bom (Some Nothing))) start) ≡ wanted (if_sniffed bom prefix) (if_sniffed bom mark)
begun start at wanted Sniff prefix mark looked own = looked
begun start at wanted Keep prefix mark looked own = own

-- what looks like the beginning of a mark isn't one
pub prefix_bytes-looks : (p : Prefix) → (prefix_of (prefix_bytes p) ≡ Some p) × (mark_of (prefix_bytes p) ≡ None)
prefix_bytes-looks Nothing = (refl, refl)
prefix_bytes-looks p = (refl, refl)

-- `at` is what is asked of a state and a queue, and stays the same over turns without an item
module _ {A : Type 0} (start : AnyState) (at : AnyState → List ℕ → A) (wanted : List ℕ → A)
    (turns : (p : Prefix) (b : ℕ) (q : List ℕ) → at (in_sniffing p) (b ∷ q) ≡ at (sniffing start p (Some b)).state ((sniffing start p (Some b)).back ++ q))
    (ends : (p : Prefix) → at (in_sniffing p) [] ≡ wanted (prefix_bytes p))
    (of_utf8 : (q : List ℕ) → at (in_utf8 utf8_start) q ≡ wanted (0xEF ∷ 0xBB ∷ 0xBF ∷ q))
    (of_utf16_be : (q : List ℕ) → at (in_utf16_be utf16_start) q ≡ wanted (0xFE ∷ 0xFF ∷ q))
    (of_utf16_le : (q : List ℕ) → at (in_utf16_le utf16_start) q ≡ wanted (0xFF ∷ 0xFE ∷ q))
    (unmarked : (q : List ℕ) → prefix_of q ≡ None → mark_of q ≡ None → at start q ≡ wanted q) where
  -- after a prefix that one byte more makes a longer one or a mark
  behind : (p : Prefix) (more : ℕ) (front : List ℕ → List ℕ) → prefix_bytes p ≡ front []
      → ((q : List ℕ) → at (in_sniffing p) (more ∷ q) ≡ wanted (front (more ∷ q)))
      → ((b : ℕ) (q : List ℕ) → (b == more) ≡ false → (more == b) ≡ false → at (in_sniffing p) (b ∷ q) ≡ wanted (front (b ∷ q)))
      → (q : List ℕ) → at (in_sniffing p) q ≡ wanted (front q)
  behind p more front e hit miss [] = ends p ∙ ap wanted e
  behind p more front e hit miss (b ∷ q) = by_byte (λ (b : ℕ). at (in_sniffing p) (b ∷ q) ≡ wanted (front (b ∷ q))) more b (hit q) (miss b q)

  behind_ef_bb : (q : List ℕ) → at (in_sniffing EfBb) q ≡ wanted (0xEF ∷ 0xBB ∷ q)
  behind_ef_bb =
      behind EfBb 0xBF (λ q. 0xEF ∷ 0xBB ∷ q) refl (λ q. turns EfBb 0xBF q ∙ of_utf8 q)
      (λ b q n m. (rw n at (turns EfBb b q)) ∙ unmarked (0xEF ∷ 0xBB ∷ b ∷ q) refl (rw m refl))

  behind_ef : (q : List ℕ) → at (in_sniffing Ef) q ≡ wanted (0xEF ∷ q)
  behind_ef =
      behind Ef 0xBB (λ q. 0xEF ∷ q) refl (λ q. turns Ef 0xBB q ∙ behind_ef_bb q)
      (λ b q n m. (rw n at (turns Ef b q)) ∙ unmarked (0xEF ∷ b ∷ q) (rw m refl) (rw m refl))

  behind_fe : (q : List ℕ) → at (in_sniffing Fe) q ≡ wanted (0xFE ∷ q)
  behind_fe =
      behind Fe 0xFF (λ q. 0xFE ∷ q) refl (λ q. turns Fe 0xFF q ∙ of_utf16_be q)
      (λ b q n m. (rw n at (turns Fe b q)) ∙ unmarked (0xFE ∷ b ∷ q) refl (rw m refl))

  behind_ff : (q : List ℕ) → at (in_sniffing Ff) q ≡ wanted (0xFF ∷ q)
  behind_ff =
      behind Ff 0xFE (λ q. 0xFF ∷ q) refl (λ q. turns Ff 0xFE q ∙ of_utf16_le q)
      (λ b q n m. (rw n at (turns Ff b q)) ∙ unmarked (0xFF ∷ b ∷ q) refl (rw m refl))

  pub looked : (q : List ℕ) → at (in_sniffing Nothing) q ≡ wanted q
  looked [] = ends Nothing
  looked (b ∷ q) =
      let P : ℕ → Type 0 = λ b. at (in_sniffing Nothing) (b ∷ q) ≡ wanted (b ∷ q) in
      by_byte P 0xEF b (turns Nothing 0xEF q ∙ behind_ef q)
      (λ no_ef not_ef.
      by_byte P 0xFE b (turns Nothing 0xFE q ∙ behind_fe q)
      (λ no_fe not_fe.
      by_byte P 0xFF b (turns Nothing 0xFF q ∙ behind_ff q)
      (λ no_ff not_ff.
      (rw (no_ef, no_fe, no_ff) at (turns Nothing b q)) ∙ unmarked (b ∷ q) (rw (not_ef, not_fe, not_ff) refl) (rw (not_ef, not_fe, not_ff) refl))))
