use Rattle.position_map.proofs.Words.{◌≡◌, subst, arith, Some, slice_get, text_of, lines_of, LinesFrom}
use Rattle.position_map.proofs.NextLines.{is_next, ahead_number, last_found, line_found, none_ahead}
use Rattle.position_map.proofs.lines.LineCursor.next.Goals as goal

pub invariant_of-self : goal.invariant_of-self
invariant_of-self c = none_ahead _ _ c.in-None.ensures.place

pub overflow_add-self-in-Some-next_mark : goal.overflow_add-self-in-Some-next_mark
overflow_add-self-in-Some-next_mark c = omega (arith, ahead_number _ _ _ c.in-Some.at c.self.invariant c.in-Some.is, c.line_count-lines.ensures.lines)

pub returns-in-None-clause-line : goal.returns-in-None-clause-line
returns-in-None-clause-line c =
    subst (λ (v : LinesFrom). slice_get (lines_of (text_of v.doc)) v.number
    ≡ Some (record { start = c.in-Some.at.start.scalars; end = c.end-last.result.scalars })) c.self.view_is
    (last_found _ _ c.in-Some.at _ (is_next _ _ _ c.in-Some.at c.self.invariant c.in-Some.is) c.in-None.ensures.place c.end-last.ensures)

pub returns-in-Some-next_mark-clause-line : goal.returns-in-Some-next_mark-clause-line
returns-in-Some-next_mark-clause-line c =
    subst (λ (v : LinesFrom). slice_get (lines_of (text_of v.doc)) v.number
    ≡ Some (record { start = c.in-Some.at.start.scalars; end = c.in-Some-next_mark.m.at.scalars })) c.self.view_is
    (line_found _ _ c.in-Some.at c.in-Some-next_mark.m (is_next _ _ _ c.in-Some.at c.self.invariant c.in-Some.is) c.in-Some-next_mark.ensures.place)
