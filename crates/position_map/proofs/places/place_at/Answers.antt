use Rattle.position_map.proofs.{Words.sym, Chains.place_some, Chains.place_none}
use Rattle.position_map.proofs.places.place_at.Goals as goal

pub end_at-to-requires : goal.end_at-to-requires
end_at-to-requires c = record { within = c.law_items.ensures.within _ _ _ (sym c.in-Some.ensures) }

pub start_of-from-requires : goal.start_of-from-requires
start_of-from-requires c = record { within = c.law_items.ensures.within _ _ _ (sym c.in-Some.ensures) }

pub returns-in-None-clause-place : goal.returns-in-None-clause-place
returns-in-None-clause-place c =
    place_none c.args.parts.now _ _ _ c.find_or_tail.ensures.place c.find_or_tail.ensures.whole (sym c.in-None.ensures)

pub returns-in-Some-clause-place : goal.returns-in-Some-clause-place
returns-in-Some-clause-place c =
    place_some c.law_chained.ensures c.args.parts.now _ _ _ _ _ _ c.find_or_tail.ensures.place c.find_or_tail.ensures.whole (sym c.in-Some.ensures)
    c.end_at-to.ensures c.start_of-from.ensures.start
