-- Proofs that a trait asks for; there is nothing to believe here. Why the turns of the decoders here come to an end, and how few items a
-- step gives, by the rules of decoder_core.
use Rattle.std.specs.Prelude.{◌≡◌, ℕ, ◌≤◌, Bool, true, false, [], ◌∷◌, length, Option, Some, None, if◌then◌else◌}
use Rattle.std.proofs.Common.{arith}
use Rattle.decoder_core.specs.declared.item.Item.{Item, TheVariants.Error}
use Rattle.decoder_core.specs.{Forms.is_ascii, Holding.AtByte, Holding.gives_at_byte, Holding.holds_at_byte, Holding.if_at_byte}
use Rattle.multibyte_decoders.specs.Pairs.{ascii_back, completes}

ascii_back_few : (held : ℕ) (c : Bool) (b : ℕ) → 1 ≤ held → length (if c then b ∷ [] else []) ≤ held
ascii_back_few held true b k = k
ascii_back_few held false b k = Prim.omega arith

pub completes_at_byte : {S : Type 0} (bytes : S → ℕ) (held : ℕ) (idle : S) (item : Option Item) (b : ℕ)
    → bytes idle ≡ 0 → 1 ≤ held → held ≤ 3 → AtByte bytes held (completes idle item b)
completes_at_byte bytes held idle (Some item) b h k f = gives_at_byte bytes held idle item [] (Prim.omega arith) f
completes_at_byte bytes held idle None b h k f =
    let few = ascii_back_few held (is_ascii b) b k in
    gives_at_byte bytes held idle Error (ascii_back b) (Prim.omega (arith, few)) f

-- what the turns of the decoders here are made of
pub ruleset turns_at_byte = (gives_at_byte, holds_at_byte, if_at_byte, completes_at_byte)
