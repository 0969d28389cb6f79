-- A record that begins with a head.
use Rattle.std.specs.Prelude.{◌≡◌, ℕ, ◌+◌, ◌≤◌, false, List, [], ◌∷◌, ◌++◌, length, take, Option, Some}
use Rattle.desk.specs.Desk.{Office}
use Rattle.connections.specs.{Traffic.Traffic, Lines.complete, Lines.unfinished, Clients.Numbered, Clients.OccurAll, Clients.BegunLines, Clients.StandFor}
use Rattle.gateway.specs.{Head.ObeysAll, Head.heading, Head.may_head, Headed.with_desk, Trace.IsBad, Traced.events_on}
use Rattle.records.specs.{Playing.PlaysEach, Records.NoneRanOut, Records.IsRecord, Records.IsPlayed, Records.IsPlayedCut}

-- no line, or one that is none of a head comes first
abbrev pub NoHead : List (List ℕ) → Type 0
NoHead [] = Unit {0}
NoHead (line ∷ lines) = may_head line ≡ false

-- none of these lines is bad
abbrev pub NoneBad : List (List ℕ) → Type 0
NoneBad [] = Unit {0}
NoneBad (line ∷ lines) = (IsBad line → ⊥) × NoneBad lines

-- The events of these lines occurred, with no reply that memory ran out, and none of the lines is bad.
pub record ArePlayed (lines : List (List ℕ)) (old new : Traffic) : Type 0 where
  pub replies : List Numbered
  pub occur : OccurAll old (events_on lines) replies new
  pub none_ran_out : NoneRanOut replies
  pub none_bad : NoneBad lines

-- These lines are those of a head, behind some parts of it, which were obeyed, and then others, whose events occurred. Parts of the head
-- that no document took did nothing.
pub record ArePlayedBehind (begun : List ℕ) (lines : List (List ℕ)) (old new : Traffic) : Type 0 where
  pub head : List (List ℕ)
  pub body : List (List ℕ)
  pub are : lines ≡ head ++ body
  pub over : NoHead body
  pub office : Office
  pub parts : List ℕ
  pub obeyed : ObeysAll (heading old.office begun) head (heading office parts)
  pub events : ArePlayed body (with_desk old office) new

-- The lines of a head from its first on, and then others.
abbrev pub IsPlayedWithHead : List (List ℕ) → Traffic → Traffic → Type 0
IsPlayedWithHead lines old new = ArePlayedBehind [] lines old new

-- These bytes are lines of a head, and they were obeyed; no connection opened or closed.
pub record IsHead (old : Traffic) (text : List ℕ) (new : Traffic) : Type 0 where
  pub parts : List ℕ
  pub obeyed : ObeysAll (heading old.office []) (complete [] text) (heading new.office parts)
  pub lines : new.lines ≡ old.lines

-- The record behind a head that ends at a line's end, by the traffic between them.
pub record IsHeadedRecord (old : Traffic) (head body : List ℕ) (there new : Traffic) : Type 0 where
  pub whole : unfinished [] head ≡ []
  pub begins : IsHead old head there
  pub goes_on : IsRecord there body new

-- ---- laws

-- What is played from the first line on is the head first, and then the events.
abbrev pub HeadsComeFirst : Type 0
HeadsComeFirst = (t u : Traffic) (lines : List (List ℕ)) (is : Option (List ℕ)) → PlaysEach (Some []) lines t u is → IsPlayedWithHead lines t u

-- Without a head, a record is played as its events are.
abbrev pub HeadlessArePlayed : Type 0
HeadlessArePlayed = (t u : Traffic) (text : List ℕ) → NoHead (complete [] text) → IsPlayedWithHead (complete [] text) t u → IsPlayed t text u

-- A record that begins with a head, of which the first n bytes are played: within the head its lines are obeyed that are whole there, and
-- nothing else happens; behind it, from the documents of the head on, what `IsPlayedCut` says of the record that follows.
abbrev pub CutHeadsArePlayed : Type 0
CutHeadsArePlayed =
    (t there u v : Traffic) (w : BegunLines) (head body : List ℕ) (n : ℕ) → StandFor t w → IsHeadedRecord t head body there u
    → IsPlayedWithHead (complete [] (take n (head ++ body))) t v
    → (n ≤ length head → IsHead t (take n head) v) × ((m : ℕ) → n ≡ length head + m → IsPlayedCut there body m u v)
