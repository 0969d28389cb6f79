use Rattle.std.proofs.Common.{rules, sym, subst, ◌∷◌, []}
use Rattle.sessions.specs.Sessions.{Did, Joins}
use Rattle.serving.proofs.Sockets as sockets
use Rattle.serving.proofs.server.Server.let_in.Goals as goal

pub returns-clause-came : goal.returns-clause-came
returns-clause-came g c on = (
  record {
    c = c.number-c.result;
    did = subst (λ k. Did c.args.sessions.now (Joins k ∷ []) c.join.new.self) (sym c.number-c.ensures.is) c.join.ensures.joined;
    place = (search rules);
    more = (search rules);
    left = (search rules);
  },
  sockets.carries_newcomer c.number-c.result _ _ c.args.sessions.now _ c.number-c.ensures.small (search rules) (search rules) c.in-Some.ensures.fresh
      (search rules) (search rules) (search rules),
)
