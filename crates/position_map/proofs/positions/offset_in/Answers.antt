use Rattle.position_map.proofs.Words.{ℕ, ◌≡◌, sym, ap, ◌∙◌, List, length, Some, arith, Bor, chars, along}
use Rattle.position_map.proofs.{Alongs.along_past, Fronting.offset_of_place, positions.offset_in.Goals.in-At, positions.offset_in.Goals.in-Past}
use Rattle.position_map.proofs.positions.offset_in.Goals as goal

pub returns : goal.returns
returns c =
    let at : along c.args.unit (chars c.args.line.now) c.args.character ≡ Some (length (chars c.match-along_text.before.now)) =
    elim c.match-along_text.branch [
      | in-At w ↦ w.in-At.ensures.along ∙ ap (λ (t : Bor (List ℕ)). Some (length (chars t.now))) (sym w.before-is)
      | in-Past w ↦ along_past _ _ _ (omega (arith, w.in-Past.ensures)) ∙ ap (λ (t : Bor (List ℕ)). Some (length (chars t.now))) (sym w.before-is)
    ] in
    offset_of_place c.args.unit (chars c.args.line.now) c.args.character _ _ _ c.count_scalars.ensures at
