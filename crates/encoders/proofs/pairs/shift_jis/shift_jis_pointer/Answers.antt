use Rattle.std.proofs.Common.{arith, ◌∙◌}
use Rattle.index_loader.specs.Index.{pointers_of}
use Rattle.encoders.proofs.pairs.shift_jis.shift_jis_pointer.Goals as goal

pub returns-in-8272-to-8835-clause-value : goal.returns-in-8272-to-8835-clause-value
returns-in-8272-to-8835-clause-value c =
    let first = rw c.from.ensures at c.in_ok-pointer.ensures.value in
    let behind = rw c.from-in-8272-to-8835.ensures at c.pointer_from.ensures.value in
    behind
    ∙ c.law_pointer_exclusion.ensures.least_behind 8272 8835 (pointers_of c.args.index.now c.args.code_point) c.in_ok-pointer.pointer first
    (omega (arith, c.in-8272-to-8835))
