use Rattle.std.proofs.Common.{◌≡◌, ◌≤◌, ◌<◌, ◌-◌, ◌∙◌, ◌++◌, get_or, ap, refl, rules, to_z, of_z, w16, arith, List, [], length, append-nil}
use Rattle.state_memo.proofs.Prelude.{vec_len, vec_capacity, to_z-of_z, chars_of_empty, Ended, items_under_way}
use Rattle.state_memo.proofs.Walking.{IsItemAt, IsWalked, alike-in, item-at, at-start, next-fits, next-within, walked-below, walked-first, walked-fits}
use Rattle.state_memo.proofs.Walking.{walked-from, walked-joined, walked-new, walked-run, walked-some, walked-whole, wide-of}
use Rattle.state_memo.proofs.items.OpenRuns.put_plain.Goals as goal
use Rattle.state_memo.proofs.items.OpenRuns.put_plain.Goals.{then-goes_on, else-goes_on, After-place-first, After-scalar_len-at, After-scalar_len-len}

-- the first item, and the walk after it
first-item : (c : After-scalar_len-at)
    → IsItemAt c.args.stride c.args.text.now 0 c.scalar_len-at.result (get_or c.widths_of-widths.result (c.scalar_len-at.result - 1) 0)
first-item c =
    let some : 0 < length c.as_bytes-bytes.result.now = search rules in
    item-at c.widths_of-widths.result c.widths_of-widths.ensures c.as_bytes-bytes.ensures.value some c.utf8.text c.scalar_len-at.ensures

first-walked : (c : After-place-first) → IsWalked c.args.stride c.one-kind.result c.args.output c.args.text.now (to_z w16 (of_z w16 c.args.from))
    (items_under_way c.args.self.now.closed.items c.args.self.now.last) (vec_capacity c.place-first.new.self.closed)
    c.scalar_len-at.result c.place-first.new.self.closed.items (vec_len c.place-first.new.self.closed)
    (to_z w16 (of_z w16 c.end_behind-last.result)) c.place-first.result.more c.place-first.result.step
first-walked c =
    let some : 0 < length c.as_bytes-bytes.result.now = search rules in
    let before = items_under_way c.args.self.now.closed.items c.args.self.now.last in
    walked-first (item-at c.widths_of-widths.result c.widths_of-widths.ensures c.as_bytes-bytes.ensures.value some c.utf8.text
    c.scalar_len-at.ensures) c.one-kind.ensures
    _ before (vec_capacity c.place-first.new.self.closed) _ (vec_len c.args.self.now.closed) _ c.place-first.result _ (search rules)
    (c.place-first.ensures.kind ∙ c.one.ensures.kind)
    (c.place-first.ensures.last ∙ c.one.ensures.last) (c.place-first.ensures.items ∙ ap (λ (is : List Ended). before ++ is) c.one.ensures.items)
    (omega (arith, c.requires.room, c.place-first.ensures.capacity)) c.place-first.ensures.few

pub returns-then-is_empty : goal.returns-then-is_empty
returns-then-is_empty c =
    let none : length c.args.text.now ≡ 0 = search rules in
    rw (chars_of_empty c.args.text.now none, append-nil) refl

pub end_behind-last-requires : goal.end_behind-last-requires
end_behind-last-requires c =
    let from = to_z w16 (of_z w16 c.args.from) in
    next-fits (first-item (goal.at.end_behind-last-requires c).After-scalar_len-at) from from [] refl (at-start from) _ _
    (to_z-of_z {w = w16} c.ranges.from) c.requires.fits

pub place-first-requires : goal.place-first-requires
place-first-requires c = walked-some (first-item (goal.at.place-first-requires c).After-scalar_len-at) _ _ c.requires.room

pub alike_at-next-requires : goal.alike_at-next-requires
alike_at-next-requires c =
    let within = next-within (first-item (goal.at.alike_at-next-requires c).After-scalar_len-at) in search (rules, within)

pub end_behind_all-last-requires : goal.end_behind_all-last-requires
end_behind_all-last-requires c =
    let held = first-walked (goal.at.end_behind_all-last-requires c).After-place-first in
    walked-below
    (walked-run (wide-of c.args.stride c.widths_of-widths.result c.widths_of-widths.ensures) held c.one-kind.ensures c.min-run.result _ refl
    (alike-in _ c.args.text.now _ _ _ _ _ c.as_bytes-bytes.ensures.value c.min-run.ensures c.alike_at-next.ensures.alike)
    (c.goes_on.ensures.same c.if-goes_on.true))
    _ _ (to_z-of_z {w = w16} c.ranges.from) c.requires.fits

pub items-init : goal.items-init
items-init c =
    let held = first-walked (goal.at.items-init c).After-place-first in
    elim c.if-goes_on.branch [
      | then-goes_on w ↦
          walked-joined
          (walked-run (wide-of c.args.stride c.widths_of-widths.result c.widths_of-widths.ensures) held c.one-kind.ensures w.min-run.result _ refl
          (alike-in _ c.args.text.now _ _ _ _ _ c.as_bytes-bytes.ensures.value w.min-run.ensures c.alike_at-next.ensures.alike)
          (c.goes_on.ensures.same w.if-goes_on.true))
          _ _ _ _ (search rules) (search rules) (search rules) (search rules)
      | else-goes_on w ↦ walked-joined held _ _ _ _ (search rules) (search rules) (search rules) (search rules)
    ]

-- an item in the loop
loop-item : (c : After-scalar_len-len)
    → IsItemAt c.args.stride c.args.text.now c.items.at c.scalar_len-len.result (get_or c.widths_of-widths.result (c.scalar_len-len.result - 1) 0)
loop-item c =
    item-at c.widths_of-widths.result c.widths_of-widths.ensures c.as_bytes-bytes.ensures.value c.items-test.true c.items.invariant.valid
    c.scalar_len-len.ensures

pub push_reserved-requires : goal.push_reserved-requires
push_reserved-requires c =
    walked-some (item-at c.widths_of-widths.result c.widths_of-widths.ensures c.as_bytes-bytes.ensures.value c.items-test.true
    c.items.invariant.valid refl) _ _ c.items.invariant.room

pub end_behind-last-requires-in-items : goal.end_behind-last-requires-in-items
end_behind-last-requires-in-items c =
    walked-fits (loop-item (goal.at.end_behind-last-requires-in-items c).After-scalar_len-len) c.items.invariant _ _
    (to_z-of_z {w = w16} c.ranges.from) c.requires.fits

pub overflow_add-at-in-items : goal.overflow_add-at-in-items
overflow_add-at-in-items c =
    let within = next-within (loop-item (goal.at.overflow_add-at-in-items c).After-scalar_len-len) in search (rules, within)

pub alike_at-behind-requires : goal.alike_at-behind-requires
alike_at-behind-requires c =
    let within = next-within (loop-item (goal.at.alike_at-behind-requires c).After-scalar_len-len) in search (rules, within)

pub end_behind_all-last-requires-in-items : goal.end_behind_all-last-requires-in-items
end_behind_all-last-requires-in-items c =
    let begun =
    walked-new (loop-item (goal.at.end_behind_all-last-requires-in-items c).After-scalar_len-len) c.items.invariant c.one-kind.ensures
    (to_z w16 (of_z w16 c.end_behind-last-in-items.result)) (search rules) _ _ _ _ refl c.push_reserved.ensures.items
    c.push_reserved.ensures.len c.push_reserved.ensures.capacity in
    walked-below
    (walked-from (wide-of c.args.stride c.widths_of-widths.result c.widths_of-widths.ensures) begun c.one-kind.ensures c.alike_at-behind.result.count _ refl
    (alike-in _ c.args.text.now _ _ c.alike_at-behind.result.count c.alike_at-behind.result.count _ c.as_bytes-bytes.ensures.value
    (omega arith) c.alike_at-behind.ensures.alike) refl)
    _ _ (to_z-of_z {w = w16} c.ranges.from) c.requires.fits

pub overflow_add-at-in-items-2 : goal.overflow_add-at-in-items-2
overflow_add-at-in-items-2 c =
    let begun =
    walked-new (loop-item (goal.at.overflow_add-at-in-items-2 c).After-scalar_len-len) c.items.invariant c.one-kind.ensures
    (to_z w16 (of_z w16 c.end_behind-last-in-items.result)) (search rules) _ _ _ _ refl c.push_reserved.ensures.items
    c.push_reserved.ensures.len c.push_reserved.ensures.capacity in
    let within = (walked-from {len = c.alike_at-behind.result.len}
    (wide-of c.args.stride c.widths_of-widths.result c.widths_of-widths.ensures) begun c.one-kind.ensures c.alike_at-behind.result.count _ refl
    (alike-in _ c.args.text.now _ _ c.alike_at-behind.result.count c.alike_at-behind.result.count _ c.as_bytes-bytes.ensures.value
    (omega arith) c.alike_at-behind.ensures.alike) refl).within in
    search (rules, within)

pub items-preserved : goal.items-preserved
items-preserved c =
    let begun =
    walked-new (loop-item (goal.at.items-preserved c).After-scalar_len-len) c.items.invariant c.one-kind.ensures
    (to_z w16 (of_z w16 c.end_behind-last-in-items.result)) (search rules) _ _ _ _ refl c.push_reserved.ensures.items
    c.push_reserved.ensures.len c.push_reserved.ensures.capacity in
    walked-joined (walked-from {len = c.alike_at-behind.result.len}
    (wide-of c.args.stride c.widths_of-widths.result c.widths_of-widths.ensures) begun c.one-kind.ensures c.alike_at-behind.result.count _ refl
    (alike-in _ c.args.text.now _ _ c.alike_at-behind.result.count c.alike_at-behind.result.count _ c.as_bytes-bytes.ensures.value
    (omega arith) c.alike_at-behind.ensures.alike) refl) _ _ _ _ (search rules) (search rules) (search rules) (search rules)

pub returns : goal.returns
returns c =
    let past : length c.args.text.now ≤ c.items.at = search rules in
    walked-whole c.items.invariant past
    ∙ rw (to_z-of_z {w = w16} c.ranges.from) refl
