use Rattle.records.proofs.Lines.{lines_are_events, records_are_cut}
use Rattle.records.proofs.{Played.records_go_on, Played.records_are_played, Played.cuts_are_played, Events.events_are_recorded}
use Rattle.records.proofs.laws.law_records.Goals as goal

pub returns : goal.returns
returns c = record {
  lines = lines_are_events;
  cut = records_are_cut c.law_lines.ensures;
  recorded = events_are_recorded c.law_lines.ensures c.law_events_go_on.ensures c.law_out_of_memory_changes_nothing.ensures;
  go_on = records_go_on c.law_events_go_on.ensures;
  played = records_are_played c.law_lines.ensures c.law_replies_in_order.ensures.order;
  cut_played = cuts_are_played c.law_lines.ensures c.law_replies_in_order.ensures.order;
}
