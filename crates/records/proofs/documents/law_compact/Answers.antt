use Rattle.records.proofs.Compaction.{documents_are_heads, edits_are_forgotten, heads_lead_on, obeyed_are_good, played_are_heads}
use Rattle.records.proofs.documents.law_compact.Goals as goal

pub returns : goal.returns
returns c = record {
  heads = documents_are_heads c.law_lines.ensures c.law_heads.ensures.lines;
  played = played_are_heads c.law_lines.ensures c.law_heads.ensures.lines c.law_replies_in_order.ensures.order c.law_replies_in_order.ensures.begin;
  on = heads_lead_on;
  good = obeyed_are_good c.law_lines.ensures c.law_heads.ensures.alike;
  forgotten = edits_are_forgotten;
}
