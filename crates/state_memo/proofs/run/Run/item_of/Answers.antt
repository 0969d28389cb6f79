use Rattle.std.proofs.Common.{rules, ◌∙◌, ◌<◌}
use Rattle.state_memo.proofs.{Prelude.all_scalars, Prelude.items_of_run, Walks.found-in}
use Rattle.state_memo.proofs.run.Run.item_of.Goals as goal

pub returns-clause-some : goal.returns-clause-some
returns-clause-some c =
    let within : c.args.n < all_scalars (items_of_run c.args.self) = search rules in
    found-in c.args.self c.args.n c.from.result (c.from.ensures ∙ c.scalars-2.ensures) within
