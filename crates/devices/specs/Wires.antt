-- What a call of a device that never waits returned or took.
use Rattle.std.specs.Prelude.{ℕ, ◌<◌, List, take, Result, Ok, Err}
use Rattle.devices.specs.declared.wire.Arrival.{Arrival, TheVariants.Bytes, TheVariants.NotYet, TheVariants.End}

-- how many bytes a read found
abbrev pub arrived_count : {E : Type 0} → Result Arrival E → ℕ
arrived_count (Ok (Bytes n)) = n
arrived_count (Ok NotYet) = 0
arrived_count (Ok End) = 0
arrived_count (Err e) = 0

-- the bytes that a read found
abbrev pub arrived : {E : Type 0} → Result Arrival E → List ℕ → List ℕ
arrived result buf = take (arrived_count result) buf

-- where a read found bytes, it found at least one
abbrev pub ArrivesSome : Arrival → Type 0
ArrivesSome (Bytes n) = 0 < n
ArrivesSome NotYet = Unit {0}
ArrivesSome End = Unit {0}

-- how many bytes a write took
abbrev pub taken_count : {E : Type 0} → Result ℕ E → ℕ
taken_count (Ok n) = n
taken_count (Err e) = 0
