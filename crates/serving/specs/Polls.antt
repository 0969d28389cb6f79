-- How long calls that ask the system what is new may wait.
use Rattle.std.specs.Prelude.{ℕ, List, [], ◌∷◌, ◌++◌, Option, Some, replicate}
use Rattle.std.specs.{Option.option_map, Duration.as_nanos, declared.time.Duration.Duration}
use Rattle.serving.specs.declared.polls.Polls.{Polls, fold-Polls, TheOpen.Polls-F}

-- a time in nanoseconds, or without a limit
abbrev pub nanos : Option Duration → Option ℕ
nanos most = option_map as_nanos most

abbrev one_more : Polls-F (List (Option ℕ)) → List (Option ℕ)
one_more Polls-F.Empty = []
one_more (Polls-F.Then before most) = before.value ++ nanos most.value ∷ []

-- how long each may wait, the first at the front
abbrev pub waits_of : Polls → List (Option ℕ)
waits_of = fold-Polls (List (Option ℕ)) one_more

-- `n` that don't wait
abbrev pub at_once : ℕ → List (Option ℕ)
at_once n = replicate n (Some 0)
