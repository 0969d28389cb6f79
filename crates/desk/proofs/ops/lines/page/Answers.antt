use Rattle.std.proofs.Common.{◌≡◌, ◌≤◌, ◌<◌, ◌+◌, ◌-◌, ◌*◌, ◌^◌, List, ◌∷◌, ◌++◌, [], min, length, length-append, map, arith, sym, ap, ◌∙◌, Some, slice_get}
use Rattle.std.proofs.Common.{subst}
use Rattle.desk.proofs.Prelude.{text_of, lines_of, pieces_most, line_of, page_of}
use Rattle.desk.{specs.declared.line.Line.Line, proofs.Pages.page_and_line, proofs.Pages.page_of_all_left, proofs.Pages.one_more}
use Rattle.position_map.specs.NextLines.{LinesFrom}
use Rattle.desk.proofs.ops.lines.page.Goals as goal

pub lines-init : goal.lines-init
lines-init c = record {
  doc = ap (λ (l : LinesFrom). l.doc) c.at-cursor.ensures.at;
  number = ap (λ (l : LinesFrom). l.number) c.at-cursor.ensures.at ∙ omega arith;
  page = c.in_ok-lines.ensures.items;
  count = ap length c.in_ok-lines.ensures.items;
  most = λ d few. omega (arith, c.at-cursor.ensures.most d few);
}

pub lines-preserved : goal.lines-preserved
lines-preserved c =
    let text = text_of c.args.document.now in
    let at : slice_get (lines_of text) (c.args.from + c.lines.counter) ≡ Some (record { start = c.in-Some.start; end = c.in-Some.end }) =
    ap (λ d. slice_get (lines_of (text_of d)) (c.args.from + c.lines.counter)) (sym c.lines.invariant.doc)
    ∙ ap (slice_get (lines_of (text_of c.lines.cursor.doc))) (sym c.lines.invariant.number)
    ∙ c.in-Some.ensures.line in
    record {
      doc = c.in-Some.ensures.doc ∙ c.lines.invariant.doc;
      number = omega (arith, c.in-Some.ensures.number, c.lines.invariant.number);
      page =
          c.in_ok-push.ensures.items
          ∙ ap (λ (ls : List Line). ls ++ record { start = c.in-Some.start; end = c.in-Some.end } ∷ []) c.lines.invariant.page
          ∙ sym (page_and_line text c.args.from c.lines.counter (record { start = c.in-Some.start; end = c.in-Some.end }) at);
      count = ap length c.in_ok-push.ensures.items ∙ length-append c.lines.lines.items _ ∙ ap (λ n. n + 1) c.lines.invariant.count;
      most = λ d few.
          one_more (c.lines.counter + 1) (2 * (d + 2)) c.args.visits.now c.lines.visits c.next.new.visits (c.lines.invariant.most d few)
          (c.in-Some.ensures.most d (subst (λ x. pieces_most x < 2 ^ d) (sym c.lines.invariant.doc) few));
    }

pub returns-clause-page : goal.returns-clause-page
returns-clause-page c =
    let text = text_of c.args.document.now in
    let all : c.lines.counter ≡ min c.args.max (length (lines_of text) - c.args.from) =
    omega (arith, c.lines-test.false, c.lines.auto.counter-end, c.min-count.ensures, c.saturating_sub.ensures, c.line_count.ensures.lines) in
    c.lines.invariant.page ∙ ap (page_of text c.args.from) all ∙ ap (map line_of) (page_of_all_left (lines_of text) c.args.from c.args.max)

pub returns-clause-most : goal.returns-clause-most
returns-clause-most c = λ d few. subst (λ n. c.lines.visits ≤ c.args.visits.now + (n + 1) * (2 * (d + 2))) (sym c.lines.invariant.count)
    (c.lines.invariant.most d few)
