use Rattle.enc_names.specs.declared.encoding.Encoding.TheVariants.{Replacement}
use Rattle.position_map.specs.{declared.change_fault.ChangeFault.TheVariants.NoEncoder, PlanExamples.in_encoding}
use Rattle.std.proofs.Common.{ℕ, ◌≡◌, refl, sym, ap, ◌∙◌, zero, suc, ◌+◌, ◌⊎◌, inl, inr, false, List, [], ◌∷◌, arith, Option, Some, None, Result, Ok, Err}
use Rattle.position_map.proofs.Words.{option_map, ok_or, decode, run, turns, Document, text_of, decoded_text, PosFault, SplitsCharacter, Range, Utf16, lines_of}
use Rattle.position_map.proofs.Words.{Encoded, is_behind, planned, replacing, along, offset_of}
use Rattle.position_map.proofs.{Planning.over_ends, Alongs.along_step}
use Rattle.position_map.proofs.plan_examples.replacement.Goals as goal

abbrev letter : Document
letter = in_encoding Replacement (0x41 ∷ [])

-- its text is one code point of one unit, so an end is before or after it
end_at : (line character : ℕ) → (offset_of (text_of letter) Utf16 (record { line = line; character = character }) ≡ Ok 0)
    ⊎ (offset_of (text_of letter) Utf16 (record { line = line; character = character }) ≡ Ok 1)
unfolding decoded_text decode run turns lines_of offset_of
end_at zero zero = inl refl
end_at zero (suc n) =
    let past : along Utf16 (0xFFFD ∷ []) (suc n) ≡ Some 1 = along_step Utf16 0xFFFD [] (suc n) (omega arith) in
    inr (ap (λ (o : Option ℕ). ok_or (option_map (λ k. 0 + k) o) SplitsCharacter) past)
end_at (suc k) n = inr refl

abbrev NoBytesAt : List ℕ → ℕ → ℕ → Type 0
NoBytesAt text i j = replacing letter (Encoded text) i j ≡ Err NoEncoder

by_numbers : (text : List ℕ) → NoBytesAt text 0 0 × NoBytesAt text 0 1 × NoBytesAt text 1 0 × NoBytesAt text 1 1
unfolding replacing decode run turns
by_numbers text = (refl, refl, refl, refl)

-- whatever its ends, no bytes are put in
module _ (range : Range) (text : List ℕ) (order : is_behind range.start range.end ≡ false) where
  abbrev start : Result ℕ PosFault
  start = offset_of (text_of letter) Utf16 range.start

  abbrev end : Result ℕ PosFault
  end = offset_of (text_of letter) Utf16 range.end

  by_ends : (start ≡ Ok 0) ⊎ (start ≡ Ok 1) → (end ≡ Ok 0) ⊎ (end ≡ Ok 1) → planned letter (Some range) Utf16 (Encoded text) ≡ Err NoEncoder
  by_ends (inl e) (inl f) = over_ends letter (Some range) Utf16 (Encoded text) range refl 0 0 order (sym e) (sym f) ∙ (by_numbers text).0
  by_ends (inl e) (inr f) = over_ends letter (Some range) Utf16 (Encoded text) range refl 0 1 order (sym e) (sym f) ∙ (by_numbers text).1
  by_ends (inr e) (inl f) = over_ends letter (Some range) Utf16 (Encoded text) range refl 1 0 order (sym e) (sym f) ∙ (by_numbers text).2
  by_ends (inr e) (inr f) = over_ends letter (Some range) Utf16 (Encoded text) range refl 1 1 order (sym e) (sym f) ∙ (by_numbers text).3

over_range : (range : Range) (text : List ℕ) → is_behind range.start range.end ≡ false → planned letter (Some range) Utf16 (Encoded text) ≡ Err NoEncoder
over_range range text order =
    by_ends range text order (end_at range.start.line range.start.character) (end_at range.end.line range.end.character)

over_text : (text : List ℕ) → planned letter None Utf16 (Encoded text) ≡ Err NoEncoder
unfolding planned replacing decoded_text decode run turns
over_text text = refl

pub returns : goal.returns
returns c = record { range = over_range; whole = over_text }
