use Rattle.records.proofs.HeadFirst.{heads_come_first, headless_are_played, cut_heads_are_played}
use Rattle.records.proofs.heads.law_headed_records.Goals as goal

pub returns : goal.returns
returns c = record {
  first = heads_come_first c.law_events_go_on.ensures;
  headless = headless_are_played;
  cut_played = cut_heads_are_played c.law_lines.ensures c.law_replies_in_order.ensures.order;
}
