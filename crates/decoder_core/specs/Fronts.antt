-- Bytes and pairs of bytes that are one code point each.
use Rattle.std.specs.Prelude.{◌≡◌, ℕ, ◌+◌, ◌<◌, ◌≤◌, List, [], ◌∷◌, ◌++◌, get_or, IfSome, Option, None, Some, drop, take, length, pos}
use Rattle.std.specs.Char.{len_utf8, IsScalar, encode_utf8}
use Rattle.decoder_core.specs.declared.bulk.Stride.{Stride}
use Rattle.decoder_core.specs.{declared.item.Item.TheVariants.One, Bulk.width_of, Forms.gives, Forms.holds, Queue.Table, Queue.feed, Shown.shown_from}

-- in this state the byte gives the code point and leads back to the state
abbrev pub TakesByte : {S : Type 0} → Table S → S → ℕ → ℕ → Type 0
TakesByte table s b c = table s (Some b) ≡ gives s (One c) []

-- a list has code points of all bytes, each of which its byte gives in this state and then leads back to the state
abbrev pub AreTakenBytes : {S : Type 0} → Table S → S → List (Option ℕ) → Type 0
AreTakenBytes table s forms = (byte : ℕ) → byte < 0x100 → IfSome (get_or forms byte None) (λ c. TakesByte table s byte c)

-- in this state the first byte is held, and the second gives the code point and leads back to the state
abbrev pub TakesPair : {S : Type 0} → Table S → S → ℕ → ℕ → ℕ → Type 0
TakesPair table s lead trail c =
    (table s (Some lead) ≡ holds (table s (Some lead)).state)
    × (table (table s (Some lead)).state (Some trail) ≡ gives s (One c) [])

-- the bytes from an index on begin with the one item that is this code point, and steps over it lead back to the state
pub record IsFront {S : Type 0} (table : Table S) (s : S) (stride : Stride) (bytes : List ℕ) (at c width : ℕ) : Type 0 where
  pub within : at + width ≤ length bytes
  pub some : 0 < width
  pub wide : width ≡ width_of stride c
  pub stays : (feed table s (take width (drop at bytes))).state ≡ s
  pub items : (read : ℕ) → shown_from table read s (take width (drop at bytes)) ≡ record { item = One c; end = pos (read + width); after = s } ∷ []

-- the code point of the one item at an index was written after `written` bytes of a text, and ends at `end`
pub record IsFrontPut {S : Type 0} (table : Table S) (s : S) (stride : Stride) (width : ℕ) (bytes : List ℕ) (at : ℕ)
    (before after : List ℕ) (written end : ℕ) : Type 0 where
  pub code_point : ℕ
  pub front : IsFront table s stride bytes at code_point width
  pub scalar : IsScalar code_point
  pub ends : end ≡ written + len_utf8 code_point
  pub text : take end after ≡ take written before ++ encode_utf8 code_point
