use Rattle.position_map.proofs.{Words.◌∙◌, Words.sym, Words.ap, Words.length, Words.text_of, Words.lines_of, Words.Pieced, LineMarks.line_count}
use Rattle.position_map.proofs.parts.Parts.line_count.Goals as goal

pub returns-clause-lines : goal.returns-clause-lines
returns-clause-lines c = c.self.invariant.1.lines ∙ sym (line_count _) ∙ ap (λ (p : Pieced). length (lines_of (text_of p.doc))) c.self.view_is
