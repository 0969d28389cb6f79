-- What the crates above cite of lines and events; a law call proves each.
use Rattle.std.specs.Prelude.{◌≡◌, ℕ, ◌+◌, ◌<◌, ◌≤◌, ◌==◌, true, false, List, [], ◌∷◌, ◌++◌, length, take, Option, None, Some}
use Rattle.connections.specs.{Lines.complete, Lines.unfinished, Lines.has_end, Lines.before_end, Traffic.Traffic, Traffic.Partial, Traffic.Stands}
use Rattle.connections.specs.{Delivery.IsOpen, Events.connections, Events.Took, Events.Happening, Events.at_number, Events.line_at, Events.gate_fault}
use Rattle.connections.specs.Clients.{Numbered, number_of, OccurAll, BegunLines, begun_on, begun_after, lines_in, StandFor, own}

-- Bytes cut at their line feeds, in two parts and at the first line feed.
pub record LinesCut : Type 0 where
  pub complete-append : (line a b : List ℕ) → complete line (a ++ b) ≡ complete line a ++ complete (unfinished line a) b
  pub unfinished-append : (line a b : List ℕ) → unfinished line (a ++ b) ≡ unfinished (unfinished line a) b
  -- bytes with no line feed
  pub complete_without : (line xs : List ℕ) → has_end xs ≡ false → complete line xs ≡ []
  pub unfinished_without : (line xs : List ℕ) → has_end xs ≡ false → unfinished line xs ≡ line ++ xs
  -- bytes with a line feed
  pub before_without : (xs : List ℕ) → has_end (before_end xs) ≡ false
  pub cut_at_end : (xs : List ℕ) → has_end xs ≡ true → (rest : List ℕ) × (xs ≡ before_end xs ++ 10 ∷ rest)
  pub complete_at_end : (line before rest : List ℕ) → has_end before ≡ false → complete line (before ++ 10 ∷ rest) ≡ (line ++ before) ∷ complete [] rest
  pub unfinished_at_end : (line before : List ℕ) → unfinished line (before ++ 10 ∷ []) ≡ []
  pub taken_at_end : (xs before rest : List ℕ) → xs ≡ before ++ 10 ∷ rest → take (length before + 1) xs ≡ before ++ 10 ∷ []

-- Events of many connections, one after another, and what they complete and begin.
pub record EventsGoOn : Type 0 where
  pub occur-append : (t u v : Traffic) (xs ys : List Happening) (a b : List Numbered) → OccurAll t xs a u → OccurAll u ys b v → OccurAll t (xs ++ ys) (a ++ b) v
  pub own-append : (c : ℕ) (xs ys : List Numbered) → own c (xs ++ ys) ≡ own c xs ++ own c ys
  -- an event that isn't refused is one of a connection
  pub small : (t : Traffic) (e : Happening) → gate_fault t.lines e ≡ None → number_of e < connections
  -- what is known of lines says as much of an event as the lines
  pub same_fault : (t : Traffic) (w : BegunLines) (e : Happening) → StandFor t w → gate_fault t.lines e ≡ gate_fault w e
  pub stood : (t : Traffic) (w : BegunLines) (c : ℕ) (known : Partial) → StandFor t w → line_at t c ≡ Some known → Stands known (begun_on w c)
  -- an event of another connection
  pub none_own : (e : Happening) (c : ℕ) (w : BegunLines) → (number_of e == c) ≡ false → own c (lines_in w e) ≡ []
  pub kept : (e : Happening) (c : ℕ) (w : BegunLines) → (number_of e == c) ≡ false → at_number (begun_after w e) c ≡ at_number w c

-- An event of bytes.
pub record EventTakesBytes : Type 0 where
  pub within : (t u : Traffic) (c taken : ℕ) (bytes : List ℕ) (reply : Option (List ℕ)) → Took t c bytes taken reply u → taken ≤ length bytes
  pub some : (t u : Traffic) (c taken : ℕ) (bytes : List ℕ) (reply : Option (List ℕ)) → Took t c bytes taken reply u → 0 < length bytes → 0 < taken
  pub stays_open : (t u : Traffic) (c taken : ℕ) (bytes : List ℕ) (reply : Option (List ℕ)) → Took t c bytes taken reply u → IsOpen t c
      → length t.lines ≡ connections → IsOpen u c
