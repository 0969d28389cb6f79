use Rattle.std.proofs.Common.{◌≡◌, ◌+◌, ◌++◌, length, take, drop}
use Rattle.position_map.{specs.ErrorPlaces.error_ats, proofs.Words.all_scalars, proofs.Words.items_of_runs}
use Rattle.position_map.proofs.diagnostic.push_errors.Given as goal

abbrev pub invariant-runs : goal.invariant-runs
invariant-runs l = record {
  listed : l.errors.items ++ take l.left (drop l.passed (error_ats l.base l.begin l.number (items_of_runs l.runs)))
      ≡ l.fn.errors.items ++ take l.max (drop l.first (error_ats l.base l.from l.scalar l.here.items));
  room : l.number + all_scalars (items_of_runs l.runs) ≡ l.scalar + all_scalars l.here.items;
}

-- each step goes past a run, or lists an error
abbrev pub decreases-runs : goal.decreases-runs
decreases-runs l = l.left + length l.runs
