-- The forms of a decoder's turns.
use Rattle.std.specs.Prelude.{ℕ, Bool, ◌&&◌, nat_le, List, [], Option, Some, None}
use Rattle.decoder_core.specs.declared.item.Item.{Item, TheVariants.One, TheVariants.Error}
use Rattle.decoder_core.specs.declared.handler.Answer.TheVariants.{Nothing, Gives, Finished}
use Rattle.decoder_core.specs.Queue.{Turn}

-- a turn that gives an item and puts bytes back
abbrev pub gives : {S : Type 0} → S → Item → List ℕ → Turn S
gives next item back = record { state = next; answer = Gives item; back = back }

-- a turn that holds what it read
abbrev pub holds : {S : Type 0} → S → Turn S
holds next = record { state = next; answer = Nothing; back = [] }

-- a turn that finishes
abbrev pub finishes : {S : Type 0} → S → Turn S
finishes next = record { state = next; answer = Finished; back = [] }

-- an ASCII byte (Infra Standard, "Bytes")
abbrev pub is_ascii : ℕ → Bool
is_ascii b = nat_le b 0x7F

-- a byte or another number from one bound to the other, both included
abbrev pub within : ℕ → ℕ → ℕ → Bool
within low high b = nat_le low b && nat_le b high

-- the item of what was looked up; null is an error
abbrev pub found : Option ℕ → Item
found (Some c) = One c
found None = Error
