use Rattle.std.proofs.Common.{refl, rules, to_z, of_z, w16}
use Rattle.state_memo.proofs.PlainTexts.{tail-grows, tail-more}
use Rattle.state_memo.proofs.tail.PlainTail.with.Goals as goal

pub returns-clause-tail : goal.returns-clause-tail
returns-clause-tail c = λ cs ds tail part.
    tail-grows c.args.self _ c.args.part c.needed.result cs ds tail part refl (search rules) (search rules) refl (search rules) (search rules)
    c.in_ok-stride.ensures.first c.in_ok-stride.ensures.second c.needed.ensures.wider (c.needed.ensures.long ds part)

pub returns-clause-items : goal.returns-clause-items
returns-clause-items c = λ cs ds tail part.
    tail-more c.args.self (record {
      before = c.args.self.before;
      from = to_z w16 (of_z w16 c.args.self.from);
      end = to_z w16 (of_z w16 c.args.part.end);
      stride = c.in_ok-stride.stride;
      output = c.args.self.output;
    }) c.args.part c.needed.result
    cs ds tail part refl (search rules) (search rules) refl (search rules) (search rules) c.in_ok-stride.ensures.first c.in_ok-stride.ensures.second
    c.needed.ensures.wider (c.needed.ensures.long ds part)
