use Rattle.codec.{specs.Any.any, specs.AnyLaws.any_counts, proofs.Few.few-shown, proofs.Few.few-run, proofs.Near.near-any}
use Rattle.codec.proofs.laws.law_few_items.Goals as goal

pub returns : goal.returns
returns c = record {
  shown = few-shown (any c.args._decoder.now) (any_counts c.args._decoder.now);
  end = few-run (any c.args._decoder.now) (any_counts c.args._decoder.now);
  near = near-any c.args._decoder.now;
}
