use Rattle.position_map.proofs.{Words.arith, Words.◌<◌, Chains.first_item, Chains.later_item}
use Rattle.position_map.proofs.places.start_of.Goals as goal

pub returns-then-k-eq0-clause-start : goal.returns-then-k-eq0-clause-start
returns-then-k-eq0-clause-start c =
    λ front back left ps n. first_item c.args.parts.now c.args.before c.args.here.now _ c.last_end.ensures.end front back left ps n _ c.if-k-eq0.true

pub returns-clause-start : goal.returns-clause-start
returns-clause-start c = λ front back left ps n e t m h.
    let some : 0 < c.args.k = omega arith in
    later_item c.law_chained.ensures c.args.parts.now c.args.before c.args.here.now _ c.args.k some c.end_at.ensures left ps n h
