-- The place that the words name, and where the program then listens, and for whom.
use Rattle.std.specs.Prelude.{◌≡◌, ℕ, List}
use Rattle.command_line.specs.declared.job.Place.{Place}
use Rattle.command_line.specs.declared.job.Place.TheVariants as asked
use Rattle.command_line.specs.declared.job.Access.TheVariants as access
use Rattle.serving.specs.declared.access.Access.TheVariants as lets_in
use Rattle.serving.specs.declared.listener.Place.{Place as Served}
use Rattle.serving.specs.declared.listener.Place.TheVariants as served

-- the same place, and at a port the same clients: where the words name a token's file, those that send one line first
abbrev pub IsServed : Place → Served → Type 0
IsServed (asked.Path path) s = s ≡ served.Path path
IsServed (asked.Port port (access.Token file)) s = (line : List ℕ) × (s ≡ served.Port port (lets_in.Line line))
IsServed (asked.Port port access.Object) s = s ≡ served.Port port lets_in.Object
IsServed (asked.Port port access.NoRequest) s = s ≡ served.Port port lets_in.NoRequest
