use Rattle.gateway.proofs.Traced as traced
use Rattle.gateway.proofs.laws.law_traces_in_order.Goals as goal

pub returns : goal.returns
returns c = record {
  events = traced.traces_are_events c.law_events_go_on.ensures;
  order = traced.law_traces_in_order c.law_events_go_on.ensures c.law_replies_in_order.ensures.order;
}
