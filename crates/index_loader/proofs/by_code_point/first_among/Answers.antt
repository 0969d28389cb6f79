use Rattle.std.proofs.Common.{rules, sym}
use Rattle.index_loader.proofs.ByCodePointLemmas.{first-found, first-other, first-past}
use Rattle.index_loader.proofs.by_code_point.first_among.Goals as goal

pub returns-then-at-pairs-clause-pointer : goal.returns-then-at-pairs-clause-pointer
returns-then-at-pairs-clause-pointer c =
    first-past c.args.pairs.now c.args.code_point c.args.bound c.place_of_rank-at.result
    (rw c.rank_of.ensures at c.place_of_rank-at.ensures.place) (search rules)

pub returns-then-get-code_point-clause-pointer : goal.returns-then-get-code_point-clause-pointer
returns-then-get-code_point-clause-pointer c =
    first-found c.args.pairs.now c.args.code_point c.args.bound c.place_of_rank-at.result
    (rw c.rank_of.ensures at c.place_of_rank-at.ensures.place) c.requires (search rules) c.index-pairs-at.result (sym c.index-pairs-at.is) (search rules)

pub returns-else-get-code_point-clause-pointer : goal.returns-else-get-code_point-clause-pointer
returns-else-get-code_point-clause-pointer c =
    first-other c.args.pairs.now c.args.code_point c.args.bound c.place_of_rank-at.result
    (rw c.rank_of.ensures at c.place_of_rank-at.ensures.place) c.requires (search rules) c.index-pairs-at.result (sym c.index-pairs-at.is) (search rules)
