use Rattle.position_map.proofs.{Words.◌∙◌, Words.ap, Words.length, Words.text_of, Words.Pieced, Pointing.end-scalars}
use Rattle.position_map.proofs.parts.Parts.end.Goals as goal

pub returns-in-Utf32 : goal.returns-in-Utf32
returns-in-Utf32 c = end-scalars _ _ _ c.in-Utf32.is (c.self.invariant.1.scalars ∙ ap (λ (p : Pieced). length (text_of p.doc)) c.self.view_is)
