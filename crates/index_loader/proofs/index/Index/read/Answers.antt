use Rattle.std.proofs.Common.{ap}
use Rattle.index_loader.{proofs.LineLemmas.parsed-complete, proofs.LineLemmas.parsed-lacking, specs.Index.Loaded}
use Rattle.index_loader.proofs.index.Index.read.Goals as goal

pub returns-then-lacks_rows : goal.returns-then-lacks_rows
returns-then-lacks_rows c = parsed-lacking c.args.kind c.args.bytes.now _ c.in_ok-pairs.ensures.ok c.if-lacks_rows.ensures

pub returns : goal.returns
returns c = (
  rw c.in_ok-of_pairs.ensures (parsed-complete c.args.kind c.args.bytes.now _ c.in_ok-pairs.ensures.ok c.if-lacks_rows.ensures),
  ap (λ (index : Loaded). index.kind) c.in_ok-of_pairs.ensures,
)
