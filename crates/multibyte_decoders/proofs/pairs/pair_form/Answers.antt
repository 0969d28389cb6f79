use Rattle.std.proofs.Common.{◌∙◌, ap, sym, arith, rules}
use Rattle.std.proofs.lemmas.Option.{IfSome_then}
use Rattle.index_loader.specs.Index.{code_point_of}
use Rattle.multibyte_decoders.{specs.Pairs.one_of, proofs.PairTables.pointer-there}
use Rattle.multibyte_decoders.proofs.pairs.pair_form.Goals as goal

pub returns-then-pointer-from-clause-lead : goal.returns-then-pointer-from-clause-lead
returns-then-pointer-from-clause-lead g c =
    let there =
    pointer-there g.R.PairRules.rule g.R.PairRules.known c.rows.result.now c.columns.result.now c.rows.ensures c.columns.ensures c.args.lead c.args.byte
    _ _ _ _ _ _ c.from.ensures c.from-2.ensures (search rules) (search rules) c.from-3.ensures c.from-4.ensures
    (omega (arith, c.if-pointer-from.true, c.from-5.ensures)) in
    IfSome_then c.form.result c.form.ensures.some (λ x found. there.0)

pub returns-then-pointer-from-clause-pair : goal.returns-then-pointer-from-clause-pair
returns-then-pointer-from-clause-pair g c =
    let index = code_point_of c.args.index.now in
    let there =
    pointer-there g.R.PairRules.rule g.R.PairRules.known c.rows.result.now c.columns.result.now c.rows.ensures c.columns.ensures c.args.lead c.args.byte
    _ _ _ _ _ _ c.from.ensures c.from-2.ensures (search rules) (search rules) c.from-3.ensures c.from-4.ensures
    (omega (arith, c.if-pointer-from.true, c.from-5.ensures)) in
    IfSome_then c.form.result c.form.ensures.some
    (λ x found. rw there.2 (g.met.R.PairRules.plain index c.args.lead c.args.byte there.1 there.2 ∙ ap one_of (ap index (sym there.3) ∙ found)))
