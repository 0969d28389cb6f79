-- How many bytes a state of the ISO-2022-JP decoder holds: at most two, and its turns keep to that. The proofs are those that a trait asks
-- for; there is nothing to believe in them.
use Rattle.std.specs.Prelude.{◌≡◌, ℕ, ◌≤◌, [], ◌∷◌, Option, Some, None}
use Rattle.std.proofs.Common.{refl, rules, lit≤}
use Rattle.decoder_core.specs.Holding.{AtByte, AtEnd, Holding, turns_at_byte, turns_at_end}
use Rattle.iso2022jp.specs.declared.output.OutputState.{OutputState, TheVariants.Ascii, TheVariants.Roman, TheVariants.Katakana, TheVariants.Jis0208}
use Rattle.iso2022jp.specs.declared.state.DecoderState.{DecoderState, TheVariants.Ready, TheVariants.Trail, TheVariants.EscapeStart, TheVariants.Escape}
use Rattle.iso2022jp.specs.Iso2022Jp.{Iso2022Jp, iso_2022_jp, ready_byte, escaped, escape_to, state_byte, state_end}

-- 1B counts as held from the state escape start on
abbrev pub state_bytes : DecoderState → ℕ
state_bytes (Ready output) = 0
state_bytes (Trail lead) = 1
state_bytes EscapeStart = 1
state_bytes (Escape lead) = 2

abbrev pub iso_2022_jp_bytes : Iso2022Jp → ℕ
iso_2022_jp_bytes s = state_bytes s.state

pub few_at : (state : DecoderState) → state_bytes state ≤ 3
few_at (Ready output) = lit≤ tt
few_at (Trail lead) = lit≤ tt
few_at EscapeStart = lit≤ tt
few_at (Escape lead) = lit≤ tt

pub ready_at : (s : Iso2022Jp) (output : OutputState) (b : ℕ) → state_bytes s.state ≡ 0
    → AtByte iso_2022_jp_bytes 0 (ready_byte s output b)
ready_at s Ascii b h = Prim.search (rules, turns_at_byte)
ready_at s Roman b h = Prim.search (rules, turns_at_byte)
ready_at s Katakana b h = Prim.search (rules, turns_at_byte)
ready_at s Jis0208 b h = Prim.search (rules, turns_at_byte)

pub escaped_at : (s : Iso2022Jp) (to : Option OutputState) (lead b : ℕ) → AtByte iso_2022_jp_bytes 2 (escaped s to (lead ∷ b ∷ []))
escaped_at s (Some output) lead b = Prim.search (rules, turns_at_byte)
escaped_at s None lead b = Prim.search (rules, turns_at_byte)

pub byte_at : (jis0208 : ℕ → Option ℕ) (s : Iso2022Jp) (state : DecoderState) (b : ℕ) → state_bytes s.state ≡ state_bytes state
    → AtByte iso_2022_jp_bytes (state_bytes state) (state_byte jis0208 s state b)
byte_at jis0208 s (Ready output) b h = Prim.search (rules, turns_at_byte, ready_at)
byte_at jis0208 s (Trail lead) b h = Prim.search (rules, turns_at_byte)
byte_at jis0208 s EscapeStart b h = Prim.search (rules, turns_at_byte)
byte_at jis0208 s (Escape lead) b h = escaped_at s (escape_to lead b) lead b

pub end_at : (s : Iso2022Jp) (state : DecoderState) → state_bytes s.state ≡ state_bytes state
    → AtEnd iso_2022_jp_bytes (state_bytes state) (state_end s state)
end_at s (Ready output) h = Prim.search (rules, turns_at_end)
end_at s (Trail lead) h = Prim.search (rules, turns_at_end)
end_at s EscapeStart h = Prim.search (rules, turns_at_end)
end_at s (Escape lead) h = Prim.search (rules, turns_at_end)

abbrev pub iso_2022_jp_holding : (jis0208 : ℕ → Option ℕ) → Holding (iso_2022_jp jis0208)
iso_2022_jp_holding jis0208 = record {
  bytes = iso_2022_jp_bytes;
  few = λ s. few_at s.state;
  at_byte = λ s b. byte_at jis0208 s s.state b refl;
  at_end = λ s. end_at s s.state refl;
}
