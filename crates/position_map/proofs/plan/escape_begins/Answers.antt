use Rattle.position_map.proofs.{Words.refl, Words.ap, Words.◌∙◌, Words.begins_with_escape, Escaping.begins_at}
use Rattle.position_map.proofs.plan.escape_begins.Goals as goal

pub returns : goal.returns
returns c =
    c.begins_with_escape.ensures ∙ ap begins_with_escape (c.as_slice.ensures.value ∙ c.in_ok-bytes.ensures) ∙ begins_at c.args.parts.doc.bytes c.args.at _ refl
