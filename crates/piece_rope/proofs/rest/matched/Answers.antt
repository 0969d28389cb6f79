use Rattle.piece_rope.proofs.Prelude.{take, sym, ◌∙◌, bytes_eq-Decides}
use Rattle.piece_rope.proofs.Matching.{no-match}
use Rattle.piece_rope.proofs.rest.matched.Goals as goal

pub returns-else-eq-clause-none : goal.returns-else-eq-clause-none
returns-else-eq-clause-none c =
    no-match c.args.head.now c.args.left.now c.min-here.result c.min-here.ensures
    (λ same. let yes = (bytes_eq-Decides (take c.min-here.result c.args.head.now) (take c.min-here.result c.args.left.now)).1 same in
    let no = sym c.eq.ensures ∙ c.if-eq.false in cc)
