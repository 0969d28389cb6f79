use Rattle.piece_rope.proofs.Prelude.{◌≡◌, ◌≤◌, ◌-◌, suc, sym, ◌∙◌, arith, rules}
use Rattle.piece_rope.proofs.Wanting.{chunk-past}
use Rattle.piece_rope.proofs.wanted.Wanted.chunk.Goals as goal

pub returns-in_default : goal.returns-in_default
returns-in_default c =
    let w = c.args.self.now in
    let far : 3 ≤ c.args.number - w.from = search rules in
    let k = c.args.number - w.from - 3 in
    let e : c.args.number - w.from ≡ suc (suc (suc k)) = omega (arith, far) in
    c.chunk_behind.ensures ∙ sym (chunk-past w c.args.number k c.if-number-self.false e)
