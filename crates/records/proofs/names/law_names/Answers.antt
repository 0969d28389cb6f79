use Rattle.records.proofs.NameLengths.{events_keep_names, heads_keep_names, none_is_named, plays_keep_names}
use Rattle.records.proofs.names.law_names.Goals as goal

pub returns : goal.returns
returns c = record {
  none = none_is_named;
  events = events_keep_names c.law_replies_in_order.ensures.order;
  heads = heads_keep_names;
  played = plays_keep_names c.law_replies_in_order.ensures.order;
}
