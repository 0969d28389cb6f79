use Rattle.std.proofs.Common.{◌≡◌, ◌∙◌, ◌++◌, ap, refl, arith, length, length-append, rules, sym, append-nil, ℕ, List, [], ◌∷◌, Some, to_z, of_z, w16}
use Rattle.state_memo.specs.{Plain.tail_items}
use Rattle.state_memo.proofs.Prelude.{chars, item_code_points, kept_item, error_of, items_under_way}
use Rattle.state_memo.proofs.{Gathered.taken-is, PlainTexts.settled-no-errors, PlainTexts.tail-taken, Walks.no-errors-more, Walks.run-no-errors}
use Rattle.state_memo.proofs.gathering.Gathering.take.Goals as goal

pub returns-in-Some-tail_with_item-clause-ok : goal.returns-in-Some-tail_with_item-clause-ok
returns-in-Some-tail_with_item-clause-ok c =
    let last : to_z w16 (of_z w16 c.in-Ok.last) ≡ c.args.end = search rules in
    let s = c.self.inside in
    let old = chars s.text.bytes in
    let new = chars c.put_item.new.text.bytes in
    let more = item_code_points c.args.item in
    let front = items_under_way s.items.closed.items s.items.last in
    let tail = Some c.in-Some-tail_with_item.tail in
    let run = kept_item c.args.item c.args.end c.args.output ∷ [] in
    let text : new ≡ old ++ more = c.put_item.ensures ∙ ap (λ (b : List ℕ). chars b ++ more) c.in_ok-reserve.ensures.bytes in
    taken-is c.args.self.now old new more (front ++ tail_items s.tail old) (front ++ tail_items tail new) run c.self.view_is text
    (tail-taken front s.tail tail old new more run text
    (rw last at (c.in-Some-tail_with_item.ensures.items old s.items.closed.items c.self.invariant.tail)))

pub invariant_of-self-in_err-reserve-2 : goal.invariant_of-self-in_err-reserve-2
invariant_of-self-in_err-reserve-2 c =
    let s = c.self.inside in
    record {
      counted = c.self.invariant.counted ∙ ap (λ (b : List ℕ). length (chars b)) (sym (c.in_err-reserve-2.ensures.bytes ∙ c.in_ok-settle.ensures.text));
      tail = tt;
      none = λ e. settled-no-errors _ (items_under_way s.items.closed.items s.items.last) s.tail (chars s.text.bytes) c.in_ok-settle.ensures.ok
          (c.self.invariant.none e);
    }

pub invariant_of-self-in_err-reserve-3 : goal.invariant_of-self-in_err-reserve-3
invariant_of-self-in_err-reserve-3 c =
    let s = c.self.inside in
    let settled = rw (← c.in_err-reserve-3.ensures.closed, ← c.in_err-reserve-3.ensures.last) at c.in_ok-settle.ensures.ok in
    record {
      counted = c.self.invariant.counted ∙ ap (λ (b : List ℕ). length (chars b)) (sym (c.in_ok-reserve-2.ensures.bytes ∙ c.in_ok-settle.ensures.text));
      tail = tt;
      none = λ e. settled-no-errors _ (items_under_way s.items.closed.items s.items.last) s.tail (chars s.text.bytes) settled
          (c.self.invariant.none e);
    }

pub invariant_of-self-2 : goal.invariant_of-self-2
invariant_of-self-2 c =
    let s = c.self.inside in
    let old = chars s.text.bytes in
    let more = item_code_points c.args.item in
    let text : chars c.put_item-2.new.text.bytes ≡ old ++ more = c.put_item-2.ensures
    ∙ ap (λ (b : List ℕ). chars b ++ more) (c.in_ok-reserve-2.ensures.bytes ∙ c.in_ok-settle.ensures.text) in
    let settled = rw (← c.in_ok-reserve-3.ensures.closed, ← c.in_ok-reserve-3.ensures.last) at c.in_ok-settle.ensures.ok in
    record {
      counted = omega (arith, c.in-Some.ensures, c.self.invariant.counted, c.scalars_of.ensures, ap length text, length-append old more);
      tail = tt;
      none = λ e. no-errors-more _ _ _ c.put.ensures
          (settled-no-errors _ (items_under_way s.items.closed.items s.items.last) s.tail old settled
          (c.self.invariant.none (c.may_err-self-inside.ensures.before e)))
          (sym (run-no-errors c.one.result (ap error_of c.one.ensures.kind ∙ c.may_err-self-inside.ensures.kind e)));
    }

pub returns-clause-ok : goal.returns-clause-ok
returns-clause-ok c =
    let last : to_z w16 (of_z w16 c.in-Ok.last) ≡ c.args.end = search rules in
    let s = c.self.inside in
    let old = chars s.text.bytes in
    let more = item_code_points c.args.item in
    let all = items_under_way s.items.closed.items s.items.last ++ tail_items s.tail old in
    let new = items_under_way c.put.new.self.closed.items c.put.new.self.last in
    let settled = rw (← c.in_ok-reserve-3.ensures.closed, ← c.in_ok-reserve-3.ensures.last) at c.in_ok-settle.ensures.ok in
    taken-is c.args.self.now old (chars c.put_item-2.new.text.bytes) more all (new ++ []) (kept_item c.args.item c.args.end c.args.output ∷ [])
    c.self.view_is
    (c.put_item-2.ensures ∙ ap (λ (b : List ℕ). chars b ++ more) (c.in_ok-reserve-2.ensures.bytes ∙ c.in_ok-settle.ensures.text))
    (rw (append-nil, c.put.ensures, settled, c.one.ensures.items, c.of-kind.ensures (to_z w16 (of_z w16 c.in-Ok.last)), last) refl)
