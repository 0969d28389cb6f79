use Rattle.std.proofs.Common.{rules}
use Rattle.index_loader.proofs.ByCodePointLemmas.{up_to-some}
use Rattle.index_loader.proofs.by_code_point.at_or_below.Goals as goal

pub returns-else-at-eq0 : goal.returns-else-at-eq0
returns-else-at-eq0 c =
    up_to-some c.args.pairs.now c.requires c.args.code_point c.count_up_to-at.result c.count_up_to-at.ensures.place
    (search rules) c.count_up_to-at.ensures.bound _ (search rules)
