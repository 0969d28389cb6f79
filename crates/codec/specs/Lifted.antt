-- The decoder of one encoding among those of several: it does in its own states what it does alone, and is finished in all others.
use Rattle.std.specs.Prelude.{ℕ, Option, Some, None}
use Rattle.decoder_core.specs.{Forms.finishes, Lift.lift, Queue.Turn, Queue.Table}

-- what it does in a state of its own, or (None) in a state of another
abbrev pub lifted_at : {S T : Type 0} → (S → T) → Table S → T → Option ℕ → Option S → Turn T
lifted_at own small state read (Some s) = lift own (small s read)
lifted_at own small state read None = finishes state

-- `own` makes one of the many states of its own, which `part` finds again
abbrev pub lifted : {S T : Type 0} → (S → T) → (T → Option S) → Table S → Table T
lifted own part small state read = lifted_at own small state read (part state)

-- a decoder with no state of its own
abbrev pub finished : {T : Type 0} → Table T
finished state read = finishes state
