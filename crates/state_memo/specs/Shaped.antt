-- Runs in order, each by the number of its shape.
use Rattle.std.specs.Prelude.{ℕ, ◌+◌, ◌<◌, ℤ, pos, ◌+ℤ◌, List, [], ◌∷◌, map, get_or}
use Rattle.state_memo.specs.declared.{kind.ItemKind.TheVariants.AsciiOne, run.Run.Run, shape.Shape.Shape}

-- what a number is read as that names no shape
abbrev pub no_shape : Shape
no_shape = record { gap = 0; more = 0; step = 0; kind = AsciiOne }

-- the shapes that numbers name
abbrev pub shapes_of : List Shape → List ℕ → List Shape
shapes_of shapes numbers = map (λ k. get_or shapes k no_shape) numbers

-- each number names one of n shapes
abbrev pub AreNamed : ℕ → List ℕ → Type 0
AreNamed n [] = Unit {0}
AreNamed n (k ∷ ks) = (k < n) × AreNamed n ks

-- how many bytes lie between the end of a run and that of the last run of these shapes after it
abbrev pub all_gaps : List Shape → ℕ
all_gaps [] = 0
all_gaps (s ∷ ss) = s.gap + all_gaps ss

-- the run of a shape after one that ends here
abbrev pub run_behind : ℤ → Shape → Run
run_behind end s = record { last = end +ℤ pos s.gap; more = s.more; step = s.step; kind = s.kind }

-- runs of these shapes after one that ends here
abbrev pub shaped_runs : ℤ → List Shape → List Run
shaped_runs end [] = []
shaped_runs end (s ∷ ss) = run_behind end s ∷ shaped_runs (end +ℤ pos s.gap) ss
