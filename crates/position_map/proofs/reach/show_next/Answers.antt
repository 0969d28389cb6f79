use Rattle.position_map.proofs.{Words.text_of, Reaching.shown-is}
use Rattle.position_map.proofs.reach.show_next.Goals as goal

pub returns-clause-diagnostic : goal.returns-clause-diagnostic
returns-clause-diagnostic c =
    let text = text_of c.args.parts.now.doc in
    shown-is c.args.unit text c.args.error c.reach-first.result.scalars c.pass_error-behind.result.scalars _ _ c.requires.error
    c.reach-first.ensures.scalars c.pass_error-behind.ensures.scalars
    (c.position_there-start.ensures c.args.unit text c.reach-first.ensures.at) (c.position_there-end.ensures c.args.unit text c.pass_error-behind.ensures.at)
