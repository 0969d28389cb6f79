-- Proofs that a trait asks for; there is nothing to believe here. The states of the UTF-16 decoders hold at most three bytes, and their turns keep to that.
use Rattle.std.specs.Prelude.{ℕ, ◌+◌, ◌≤◌, Option, Some, None}
use Rattle.std.proofs.Common.{rules, lit≤}
use Rattle.decoder_core.specs.{declared.utf16.ByteOrder.ByteOrder, Holding.AtByte, Holding.AtEnd, Holding.Holding, Holding.turns_at_byte, Holding.turns_at_end}
use Rattle.decoder_core.specs.Utf16.{Utf16, utf16, utf16_byte, utf16_end}

-- n, or 0 if there is no value
abbrev pub bytes_unless_null : ℕ → Option ℕ → ℕ
bytes_unless_null n None = 0
bytes_unless_null n (Some _) = n

abbrev pub utf16_bytes : Utf16 → ℕ
utf16_bytes s = bytes_unless_null 1 s.lead_byte + bytes_unless_null 2 s.lead_surrogate

pub few_at : (first surrogate : Option ℕ) → bytes_unless_null 1 first + bytes_unless_null 2 surrogate ≤ 3
few_at None None = lit≤ tt
few_at None (Some lead) = lit≤ tt
few_at (Some b) None = lit≤ tt
few_at (Some b) (Some lead) = lit≤ tt

pub byte_at : (order : ByteOrder) (first surrogate : Option ℕ) (b : ℕ)
    → AtByte utf16_bytes (bytes_unless_null 1 first + bytes_unless_null 2 surrogate) (utf16_byte order first surrogate b)
byte_at order None None b = Prim.search (rules, turns_at_byte)
byte_at order None (Some lead) b = Prim.search (rules, turns_at_byte)
byte_at order (Some first) None b = Prim.search (rules, turns_at_byte)
byte_at order (Some first) (Some lead) b = Prim.search (rules, turns_at_byte)

pub end_at : (first surrogate : Option ℕ)
    → AtEnd utf16_bytes (bytes_unless_null 1 first + bytes_unless_null 2 surrogate) (utf16_end first surrogate)
end_at None None = Prim.search (rules, turns_at_end)
end_at None (Some lead) = Prim.search (rules, turns_at_end)
end_at (Some first) None = Prim.search (rules, turns_at_end)
end_at (Some first) (Some lead) = Prim.search (rules, turns_at_end)

abbrev pub utf16_holding : (order : ByteOrder) → Holding (utf16 order)
utf16_holding order = record {
  bytes = utf16_bytes;
  few = λ s. few_at s.lead_byte s.lead_surrogate;
  at_byte = λ s b. byte_at order s.lead_byte s.lead_surrogate b;
  at_end = λ s. end_at s.lead_byte s.lead_surrogate;
}
