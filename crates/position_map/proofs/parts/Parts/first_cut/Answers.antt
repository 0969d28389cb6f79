use Rattle.position_map.proofs.{Words.◌≡◌, Words.ap, Words.◌∙◌, Words.subst, Words.Some, Words.Ascii, Words.cut_of, Words.Pieced, ItemCutting.first_is}
use Rattle.position_map.proofs.parts.Parts.first_cut.Goals as goal

pub returns : goal.returns
returns c =
    subst (λ (p : Pieced). Some (record { at = c.bom_len.result; output = Ascii }) ≡ cut_of p.doc 0) c.self.view_is
    (ap (λ at. Some (record { at = at; output = Ascii })) c.bom_len.ensures ∙ first_is c.self.inside.doc.now c.law_in_force.ensures.output)
