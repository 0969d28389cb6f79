use Rattle.position_map.proofs.places.scalar_to_place.Goals as goal

pub returns-clause-place : goal.returns-clause-place
returns-clause-place c = rw c.of-parts.ensures.doc at c.place_at.ensures.place
