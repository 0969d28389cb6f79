use Rattle.std.proofs.Common.{◌≡◌, ◌++◌, refl, sym, ◌∙◌, rules, arith, subst, ℤ, pos, ◌+ℤ◌, [], ◌∷◌, Some, IfSome, to_z, of_z, w16}
use Rattle.state_memo.specs.{Plain.IsPart, Plain.tail_items, declared.tail.PlainPart.PlainPart}
use Rattle.state_memo.proofs.Prelude.{One, ints, kept_item, width_of}
use Rattle.state_memo.proofs.tail.PlainTail.with_one.Goals as goal

abbrev part_of : goal.After-with → PlainPart
part_of c = record {
  count = 1;
  len = c.len_utf8-len.result;
  from = to_z w16 (of_z w16 c.in_ok-from.from);
  end = to_z w16 (of_z w16 c.args.end);
  stride = c.match-self.stride;
  output = c.args.output;
}

width-is : (c : goal.After-with) → to_z w16 (of_z w16 c.args.end) ≡ to_z w16 (of_z w16 c.in_ok-from.from) +ℤ pos (width_of c.match-self.stride c.args.c)
width-is c =
    let wide = c.len_width.ensures c.args.c c.len_utf8-len.ensures.value in
    let end : to_z w16 (of_z w16 c.args.end) ≡ to_z w16 (of_z w16 c.in_ok-from.from) +ℤ pos c.len_width.result = search rules in
    omega (arith, ints, end, wide)

is-part : (c : goal.After-with) → IsPart (part_of c) (c.args.c ∷ [])
is-part c = record { count = refl; len = omega (arith, c.len_utf8-len.ensures.value); end = omega (arith, ints, width-is c) }

pub returns-clause-tail : goal.returns-clause-tail
returns-clause-tail c = λ cs tail. c.with.ensures.tail cs (c.args.c ∷ []) tail (is-part c)

pub returns-clause-items : goal.returns-clause-items
returns-clause-items c = λ cs tail.
    let end : to_z w16 (of_z w16 c.args.end) ≡ c.args.end = search rules in
    subst (λ (z : ℤ). IfSome c.with.result (λ t. tail_items (Some t) (cs ++ c.args.c ∷ []) ≡ tail_items (Some c.args.self) cs
    ++ kept_item (One c.args.c) z c.args.output ∷ [])) (sym (width-is c) ∙ end) (c.with.ensures.items cs (c.args.c ∷ []) tail (is-part c))
