use Rattle.std.proofs.Common.{rules}
use Rattle.index_loader.proofs.FormLemmas.{behind, fronts}
use Rattle.index_loader.proofs.form.put_four.Goals as goal

pub returns-clause-fronts : goal.returns-clause-fronts
returns-clause-fronts c = fronts c.args.text.now c.args.at c.args.number _ _ _ _ c.requires (search rules) (search rules) (search rules)

pub returns-clause-behind : goal.returns-clause-behind
returns-clause-behind c = behind c.args.text.now c.args.at _ _ _ _
