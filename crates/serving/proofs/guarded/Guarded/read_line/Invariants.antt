use Rattle.std.proofs.Common.{◌≡◌}
use Rattle.serving.specs.Guarding.{given_by, taken_by}
use Rattle.serving.proofs.guarded.Guarded.read_line.Given as goal

abbrev pub invariant-loop : goal.invariant-loop
invariant-loop l = record {
  given : given_by l.self ≡ given_by l.initial.self;
  taken : taken_by l.self ≡ taken_by l.initial.self;
  access : l.self.access ≡ l.initial.self.access;
}
