use Rattle.std.proofs.Common.{ap, false, length, sym, take, ◌∙◌}
use Rattle.lane_ascii.specs.Leads.{leads}
use Rattle.position_map.proofs.{Bytes.mark_boundary, Bytes.mark_cut_at, Bytes.no_mark_cut, Words.IsUtf8-take, Words.chars}
use Rattle.position_map.proofs.cuts.split_at_first_mark.Goals as goal

pub returns-in-None : goal.returns-in-None
returns-in-None c = no_mark_cut c.law_marks.ensures.marks c.law_marks.ensures.ends _ _ _ _ c.utf8.text c.as_bytes.ensures.value c.in-None.ensures

-- as many code points as bytes begin one
pub returns-in-Some : goal.returns-in-Some
returns-in-Some c =
    let text = c.args.text.now in
    let at = c.in-Some.field-0.at in
    let cut = mark_boundary false text c.as_bytes.result.now 0 at c.as_bytes.ensures.value c.in-Some.ensures.0 in (
      mark_cut_at c.law_marks.ensures.marks c.law_marks.ensures.ends _ _ _ _ _ _ _ c.utf8.text c.as_bytes.ensures.value c.in-Some.ensures.0
          c.split_at.ensures.front c.split_at.ensures.back,
      c.in-Some.ensures.1
          ∙ ap (λ bytes. leads (take at bytes)) c.as_bytes.ensures.value
          ∙ c.law_leads.ensures (take at text) (IsUtf8-take text at c.utf8.text cut)
          ∙ ap (λ front. length (chars front)) (sym c.split_at.ensures.front),
    )

pub split_at-requires : goal.split_at-requires
split_at-requires c = mark_boundary _ _ _ _ _ c.as_bytes.ensures.value c.in-Some.ensures.0
