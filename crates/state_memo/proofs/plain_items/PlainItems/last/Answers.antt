use Rattle.std.proofs.Common.{◌≡◌, ◌∙◌, ◌++◌, ◌+◌, ◌-◌, ◌<◌, ap, arith, rules, sym, ℕ, ℤ, List, length, slice_get, Some, append-nil, to_z, of_z, w16}
use Rattle.state_memo.specs.{Plain.code_points_behind, Plain.item_behind, Runs.items_of_last}
use Rattle.state_memo.proofs.Prelude.{Ended, chars, chars_of_empty, plain_items_from, run_width}
use Rattle.state_memo.proofs.{Numbers.width-chars, PlainTexts.last-plain, PlainTexts.some-chars}
use Rattle.state_memo.proofs.plain_items.PlainItems.last.Goals as goal

pub returns-then-is_empty : goal.returns-then-is_empty
returns-then-is_empty c =
    let p = c.self.inside in
    let none : length c.behind-rest.result.now ≡ 0 = search rules in
    let rest = sym c.behind-rest.ensures ∙ chars_of_empty c.behind-rest.result.now none in
    c.last_in.ensures ∙ sym (ap (λ (es : List Ended). slice_get es (length es - 1))
    (sym c.self.view_is ∙ ap (λ (cs : List ℕ). items_of_last p.front ++ plain_items_from p.stride p.from p.output cs) rest
    ∙ append-nil (items_of_last p.front)))

pub returns : goal.returns
returns c =
    let p = c.self.inside in
    let rest = code_points_behind p.front p.text in
    let from : to_z w16 (of_z w16 p.from) ≡ p.from = search rules in
    let bytes : 0 < length c.behind-rest.result.now = search rules in
    let some : 0 < length rest = omega (
      arith,
      some-chars (chars c.behind-rest.result.now) (length c.behind-rest.result.now) (width-chars c.behind-rest.result.now c.behind-rest.utf8) bytes,
      ap length c.behind-rest.ensures,
    ) in
    ap Some (c.item_at.ensures ∙ ap (λ (z : ℤ). item_behind z p.output (c.width_of_text-width.result + 0)) from
    ∙ ap (item_behind p.from p.output) (omega arith ∙ c.width_of_text-width.ensures ∙ ap (run_width p.stride) c.behind-rest.ensures))
    ∙ sym (ap (λ (es : List Ended). slice_get es (length es - 1)) (sym c.self.view_is)
    ∙ last-plain (items_of_last p.front) p.stride p.from p.output rest some)
