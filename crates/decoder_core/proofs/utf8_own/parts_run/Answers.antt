use Rattle.std.proofs.Common.{arith}
use Rattle.lemmas.proofs.Lists.{rest-is}
use Rattle.decoder_core.proofs.Utf8Runs.{utf8-behind}
use Rattle.decoder_core.proofs.utf8_own.parts_run.Goals as goal

pub overflow_add-valid : goal.overflow_add-valid
overflow_add-valid c =
    let bytes = c.args.bytes.now in
    let behind = utf8-behind c.parts.valid _ c.part_end-end.result bytes _ (rest-is c.parts.valid bytes) c.parts.invariant.within c.parts.invariant.valid
    c.valid_run-run.ensures.longest c.valid_run-run.ensures.valid in
    Prim.omega (arith, behind.0, c.type_inv.bytes)

pub parts-preserved : goal.parts-preserved
parts-preserved c =
    let bytes = c.args.bytes.now in
    let behind = utf8-behind c.parts.valid _ c.part_end-end.result bytes _ (rest-is c.parts.valid bytes) c.parts.invariant.within c.parts.invariant.valid
    c.valid_run-run.ensures.longest c.valid_run-run.ensures.valid in
    record { within = behind.0; valid = behind.1 }

pub returns-then-run-eq0-clause-valid : goal.returns-then-run-eq0-clause-valid
returns-then-run-eq0-clause-valid c =
    let bytes = c.args.bytes.now in
    (utf8-behind c.parts.valid _ c.part_end-end.result bytes _ (rest-is c.parts.valid bytes) c.parts.invariant.within c.parts.invariant.valid
    c.valid_run-run.ensures.longest c.valid_run-run.ensures.valid).1
