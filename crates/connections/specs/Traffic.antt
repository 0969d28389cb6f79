-- The connections, and what bytes of one connection do.
use Rattle.std.specs.Prelude.{◌≡◌, ℕ, ◌+◌, List, [], ◌++◌, length, min, Option, Some, None, MatchBool, if◌then◌else◌}
use Rattle.desk.specs.Desk.{Office}
use Rattle.line_protocol.specs.Step.{line_limit, Replies}
use Rattle.connections.specs.declared.connection.begun_line.Line.{Line}
use Rattle.connections.specs.declared.connection.begun_line.Line.TheVariants as line
use Rattle.connections.specs.Lines.{has_end, before_end}

-- What is known of a partial line: its bytes; or, if they were dropped, how many were received, counted up to the first one over the limit.
pub data Partial : Type 0 where
  Received : List ℕ → Partial
  Dropped : ℕ → Partial

-- The partial line may be this one, of which at most `limit` bytes are kept. A line whose bytes were dropped may be any of its length.
abbrev pub StandsWithin : ℕ → Partial → List ℕ → Type 0
StandsWithin limit (Received xs) line = line ≡ xs
StandsWithin limit (Dropped n) line = n ≡ min (length line) (limit + 1)

abbrev pub Stands : Partial → List ℕ → Type 0
Stands = StandsWithin line_limit

-- bytes continue a line
abbrev pub GoesOn : ℕ → Partial → List ℕ → Partial → Type 0
GoesOn limit old bytes new = (line : List ℕ) → StandsWithin limit old line → StandsWithin limit new (line ++ bytes)

-- what the two fields of a line stand for
abbrev pub partial_of : Option ℕ → List ℕ → Partial
partial_of None xs = Received xs
partial_of (Some n) xs = Dropped n

-- what is known of a line that is complete
abbrev pub known_of : Line → Partial
known_of (line.Whole bytes) = Received bytes.now
known_of (line.Joined bytes) = Received bytes.items
known_of (line.Dropped n) = Dropped n

-- the desk, and the partial line of each open connection
pub record Traffic : Type 0 where
  pub office : Office
  pub lines : List (Option Partial)

-- how many bytes are taken: up to and including the first line feed, or all
abbrev pub taken_of : List ℕ → ℕ
taken_of bytes = if has_end bytes then length (before_end bytes) + 1 else length bytes

-- Bytes before a line feed completed a line: it was answered, and the next line is empty.
pub record Completes (old : Office) (begun : Partial) (bytes : List ℕ) (reply : Option (List ℕ)) (new : Office) (next : Partial) : Type 0 where
  pub text : List ℕ
  pub is : reply ≡ Some text
  pub fresh : next ≡ Received []
  pub answers : (line : List ℕ) → Stands begun line → Replies old (line ++ bytes) text new

-- Bytes continue a line: nothing was answered.
pub record Continues (old : Office) (begun : Partial) (bytes : List ℕ) (reply : Option (List ℕ)) (new : Office) (next : Partial) : Type 0 where
  pub silent : reply ≡ None
  pub same : new ≡ old
  pub goes_on : (line : List ℕ) → Stands begun line → Stands next (line ++ bytes)

-- What bytes of one connection do: they are taken up to and including the first line feed, or all of them.
pub record Takes (bytes : List ℕ) (old : Office) (begun : Partial) (taken : ℕ) (reply : Option (List ℕ)) (new : Office) (next : Partial) : Type 0 where
  pub count : taken ≡ taken_of bytes
  pub step : MatchBool (has_end bytes) (Completes old begun (before_end bytes) reply new next) (Continues old begun bytes reply new next)
