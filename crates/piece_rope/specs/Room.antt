-- How much memory the pieces of a document may remember outcomes in.
use Rattle.std.specs.Prelude.{ℕ, ◌*◌, ◌-◌, ◌^◌, min, List, length}
use Rattle.std.specs.List.{sum_by}
use Rattle.state_memo.specs.Memo.{memory_of, without}
use Rattle.piece_rope.specs.Entry.{Entry}

-- for each of its bytes, where it remembers several
abbrev pub most_remembered : ℕ
most_remembered = 6

abbrev pub room_in : List ℕ → ℕ
room_in bytes = most_remembered * length bytes

-- the same for a piece, as a number of 64 bits
abbrev pub piece_room : List ℕ → ℕ
piece_room bytes = min (room_in bytes) (2 ^ 64 - 1)

-- how many bytes of memory the outcomes take that a piece remembers, without the one from the state in which it is
-- entered
abbrev pub beside : Entry → ℕ
beside p = memory_of (without p.piece.known p.entry)

-- and those of pieces in a row
abbrev pub all_beside : List Entry → ℕ
all_beside ps = sum_by beside ps
