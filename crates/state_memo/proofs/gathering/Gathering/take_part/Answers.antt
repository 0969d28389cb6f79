use Rattle.std.proofs.Common.{◌≡◌, ◌∙◌, ◌++◌, ap, arith, length, length-append, subst, sym, append-nil, ℕ, List, [], Some}
use Rattle.state_memo.specs.{Plain.HasTail, Plain.part_items, Plain.tail_items}
use Rattle.state_memo.proofs.Prelude.{IsUtf8, chars, chars-append, Ended, items_under_way}
use Rattle.state_memo.proofs.{CodePoints.plain-no-errors, Gathered.taken-is, PlainTexts.settled-no-errors, PlainTexts.tail-taken, Walks.no-errors-more}
use Rattle.state_memo.proofs.gathering.Gathering.take_part.Goals as goal

pub invariant_of-self-in-Some-tail_with_part : goal.invariant_of-self-in-Some-tail_with_part
invariant_of-self-in-Some-tail_with_part c =
    let s = c.self.inside in
    let old = chars s.text.bytes in
    let more = chars c.args.text.now in
    let text : chars c.put_text.new.self.bytes ≡ old ++ more = ap chars c.in_ok-put_text.ensures.ok
    ∙ chars-append s.text.bytes c.args.text.now c.in_ok-put_text.ensures.utf8 in
    record {
      counted = omega (arith, c.in-Some.ensures, c.self.invariant.counted, c.requires.count, ap length text, length-append old more);
      tail = subst (λ (cs : List ℕ). HasTail (Some c.in-Some-tail_with_part.tail) cs s.items.closed.items) (sym text)
          (c.in-Some-tail_with_part.ensures.tail old more s.items.closed.items c.may_begin-first.ensures c.self.invariant.tail
          c.self.invariant.counted c.requires);
      none = c.self.invariant.none;
    }

pub returns-in-Some-tail_with_part-clause-ok : goal.returns-in-Some-tail_with_part-clause-ok
returns-in-Some-tail_with_part-clause-ok c =
    let s = c.self.inside in
    let old = chars s.text.bytes in
    let new = chars c.put_text.new.self.bytes in
    let more = chars c.args.text.now in
    let front = items_under_way s.items.closed.items s.items.last in
    let tail = Some c.in-Some-tail_with_part.tail in
    let text : new ≡ old ++ more = ap chars c.in_ok-put_text.ensures.ok ∙ chars-append s.text.bytes c.args.text.now c.in_ok-put_text.ensures.utf8 in
    taken-is c.args.self.now old new more (front ++ tail_items s.tail old) (front ++ tail_items tail new) (part_items c.args.part more)
    c.self.view_is text
    (tail-taken front s.tail tail old new more (part_items c.args.part more) text
    (c.in-Some-tail_with_part.ensures.items old more s.items.closed.items c.self.invariant.tail c.self.invariant.counted c.requires))

pub invariant_of-self-in_err-put_part : goal.invariant_of-self-in_err-put_part
invariant_of-self-in_err-put_part c =
    let s = c.self.inside in
    record {
      counted = c.self.invariant.counted ∙ ap (λ (b : List ℕ). length (chars b)) (sym (c.in_err-put_part.ensures.text_err ∙ c.in_ok-settle.ensures.text));
      tail = tt;
      none = λ e. settled-no-errors _ (items_under_way s.items.closed.items s.items.last) s.tail (chars s.text.bytes)
          (c.in_err-put_part.ensures.err ∙ c.in_ok-settle.ensures.ok) (c.self.invariant.none e);
    }

pub invariant_of-self-2 : goal.invariant_of-self-2
invariant_of-self-2 c =
    let s = c.self.inside in
    let p = c.args.part in
    let old = chars s.text.bytes in
    let more = chars c.args.text.now in
    let text : chars c.put_part.new.text.bytes ≡ old ++ more =
    ap chars (c.in_ok-put_part.ensures.text ∙ ap (λ (b : List ℕ). b ++ c.args.text.now) c.in_ok-settle.ensures.text)
    ∙ chars-append s.text.bytes c.args.text.now (subst IsUtf8 c.in_ok-settle.ensures.text c.in_ok-put_part.ensures.utf8) in
    record {
      counted = omega (arith, c.in-Some.ensures, c.self.invariant.counted, c.requires.count, ap length text, length-append old more);
      tail = tt;
      none = λ e. no-errors-more _ _ _ c.in_ok-put_part.ensures.ok
          (settled-no-errors _ (items_under_way s.items.closed.items s.items.last) s.tail old c.in_ok-settle.ensures.ok (c.self.invariant.none e))
          (plain-no-errors p.stride p.from p.output more);
    }

pub returns-clause-ok : goal.returns-clause-ok
returns-clause-ok c =
    let s = c.self.inside in
    let old = chars s.text.bytes in
    let more = chars c.args.text.now in
    let all = items_under_way s.items.closed.items s.items.last ++ tail_items s.tail old in
    let new = items_under_way c.put_part.new.items.closed.items c.put_part.new.items.last in
    taken-is c.args.self.now old (chars c.put_part.new.text.bytes) more all (new ++ []) (part_items c.args.part more) c.self.view_is
    (ap chars (c.in_ok-put_part.ensures.text ∙ ap (λ (b : List ℕ). b ++ c.args.text.now) c.in_ok-settle.ensures.text)
    ∙ chars-append s.text.bytes c.args.text.now (subst IsUtf8 c.in_ok-settle.ensures.text c.in_ok-put_part.ensures.utf8))
    (append-nil new ∙ c.in_ok-put_part.ensures.ok ∙ ap (λ (is : List Ended). is ++ part_items c.args.part more) c.in_ok-settle.ensures.ok)
