use Rattle.std.proofs.{lemmas.Bool.or_parts, Common.ap, Common.◌∙◌}
use Rattle.serving.specs.declared.server.Server.{Server}
use Rattle.serving.proofs.Turns as turns
use Rattle.serving.proofs.server.Server.round.Goals as goal

pub returns-clause-rest : goal.returns-clause-rest
returns-clause-rest g c quiet =
    let none = or_parts _ _ quiet in
    record { clients = c.steps-moved.ensures.rest none.1; listener = c.steps-moved.ensures.no_more none.1 (c.let_in-came.ensures.no_more none.0) }

pub returns-clause-round : goal.returns-clause-round
returns-clause-round g c = turns.rounded c.law_acts_in_a_row.ensures c.let_in-came.result c.steps-moved.result _ _ _ _ _ _ c.let_in-came.ensures.came
    c.let_in-came.ensures.nobody c.let_in-came.ensures.no_more c.let_in-came.ensures.looked c.let_in-came.ensures.stay c.let_in-came.ensures.kept
    c.steps-moved.ensures.steps c.steps-moved.ensures.causes c.steps-moved.ensures.kept

pub returns-clause-since : goal.returns-clause-since
returns-clause-since g c quiet = ap (λ (s : Server). s.alone_since) c.steps-moved.ensures.kept ∙ c.let_in-came.ensures.since (or_parts _ _ quiet).0

pub returns-clause-keeps : goal.returns-clause-keeps
returns-clause-keeps g c all = c.steps-moved.ensures.keeps all ∙ ap (λ (s : Server). s.is_unkept) c.let_in-came.ensures.kept
