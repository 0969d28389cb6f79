-- One decoder that stands for another: each state of the smaller is seen as a state of the larger, and the larger does there what the
-- smaller does.
use Rattle.std.specs.Prelude.{◌≡◌, ℕ, Option}
use Rattle.decoder_core.specs.Queue.{Turn, Table, Fed}

abbrev pub lift : {S T : Type 0} → (S → T) → Turn S → Turn T
lift f t = record { state = f t.state; answer = t.answer; back = t.back }

abbrev pub lift_fed : {S T : Type 0} → (S → T) → Fed S → Fed T
lift_fed f x = record { state = f x.state; items = x.items }

abbrev pub IsLifted : {S T : Type 0} → (S → T) → Table S → Table T → Type 0
IsLifted {S} f small big = (s : S) (o : Option ℕ) → big (f s) o ≡ lift f (small s o)
