use Rattle.std.proofs.{Common.sym, Common.◌∙◌, lemmas.Option.none-some}
use Rattle.index_loader.proofs.SlotLemmas.{none-at}
use Rattle.index_loader.proofs.indexes.Indexes.new.Goals as goal

pub invariant_of-result : goal.invariant_of-result
invariant_of-result c = λ k index is. absurd (none-some index (sym (none-at 34 k) ∙ is))
