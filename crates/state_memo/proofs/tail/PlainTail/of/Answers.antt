use Rattle.std.proofs.Common.{refl, rules, to_z, of_z, w16}
use Rattle.state_memo.proofs.PlainTexts.{tail-begins, tail-first}
use Rattle.state_memo.proofs.tail.PlainTail.of.Goals as goal

pub returns-clause-tail : goal.returns-clause-tail
returns-clause-tail c = λ cs ds before part.
    tail-begins _ c.args.part cs ds before (search rules) (search rules) refl c.needed.ensures.wider (c.needed.ensures.long ds part) part

pub returns-clause-items : goal.returns-clause-items
returns-clause-items c = λ cs ds before part.
    tail-first (record {
      before = c.args.before;
      from = to_z w16 (of_z w16 c.args.part.from);
      end = to_z w16 (of_z w16 c.args.part.end);
      stride = c.needed.result;
      output = c.args.part.output;
    }) c.args.part cs ds before (search rules) (search rules) refl c.needed.ensures.wider (c.needed.ensures.long ds part) part
