use Rattle.std.proofs.Common.{ap, ◌∙◌, sym, leb-false, chars}
use Rattle.state_memo.proofs.Parting.{IsScalarCut-at, cut_there, has_none, has_place}
use Rattle.state_memo.proofs.parts.split_at_scalar.Goals as goal

pub split_at-requires : goal.split_at-requires
split_at-requires c = (cut_there _ _ _ c.utf8.text c.in-Some.ensures).boundary

pub returns-in-Some-clause-cut : goal.returns-in-Some-clause-cut
returns-in-Some-clause-cut c = IsScalarCut-at _ _ _ _ _ c.utf8.text c.in-Some.ensures c.split_at.ensures.front c.split_at.ensures.back

pub returns-in-Some-clause-variant : goal.returns-in-Some-clause-variant
returns-in-Some-clause-variant c = sym (has_place _ _ _ c.in-Some.ensures)

pub returns-in-Some-clause-bytes : goal.returns-in-Some-clause-bytes
returns-in-Some-clause-bytes c = c.split_at.ensures.front ∙ (cut_there _ _ _ c.utf8.text c.in-Some.ensures).first

pub returns-in-Some-clause-front : goal.returns-in-Some-clause-front
returns-in-Some-clause-front c = ap chars c.split_at.ensures.front ∙ (cut_there _ _ _ c.utf8.text c.in-Some.ensures).front

pub returns-in-Some-clause-back : goal.returns-in-Some-clause-back
returns-in-Some-clause-back c = ap chars c.split_at.ensures.back ∙ (cut_there _ _ _ c.utf8.text c.in-Some.ensures).back

pub returns-in-None-clause-cut : goal.returns-in-None-clause-cut
returns-in-None-clause-cut c = leb-false _ _ (has_none _ _ c.in-None.ensures)

pub returns-in-None-clause-variant : goal.returns-in-None-clause-variant
returns-in-None-clause-variant c = sym (has_none _ _ c.in-None.ensures)
