-- Outputs that are too short.
use Rattle.std.specs.Prelude.{ℕ}
use Rattle.lane_ascii.specs.declared.room.NeedsRoom.{NeedsRoom}

-- the number that a refusal names
abbrev pub room_needed : NeedsRoom → ℕ
room_needed needs = needs.0
