use Rattle.std.proofs.Common.{sym, ◌∙◌, arith}
use Rattle.desk.specs.Documents.{max_number}
use Rattle.gateway.specs.Head.{revision_in}
use Rattle.gateway.proofs.{Words.no_text, Words.not_parsed, Words.other_parsed, Revisions.no_revision, Revisions.this_revision}
use Rattle.gateway.proofs.traces.order.revision_in.Goals as goal

pub returns-in_default-clause-is : goal.returns-in_default-clause-is
returns-in_default-clause-is c = no_text 64 max_number (omega arith) (omega arith) revision_in no_revision c.args.word.now c.in_default.ensures.cases.0

pub returns-in_default-from_str_radix-clause-is : goal.returns-in_default-from_str_radix-clause-is
returns-in_default-from_str_radix-clause-is c =
    not_parsed 64 max_number (omega arith) (omega arith) revision_in no_revision c.args.word.now c.in_default-from_str_radix.field-0
    (rw c.in-Ok.ensures.cases.0 at c.in_default-from_str_radix.ensures.value)

pub returns-then-is_revision-clause-is : goal.returns-then-is_revision-clause-is
returns-then-is_revision-clause-is c = this_revision c.in-Ok-from_str_radix.n c.args.word.now (sym c.is_revision.ensures ∙ c.if-is_revision.true)

pub returns-else-is_revision-clause-is : goal.returns-else-is_revision-clause-is
returns-else-is_revision-clause-is c =
    other_parsed 64 max_number (omega arith) (omega arith) revision_in no_revision c.args.word.now c.from_str_radix.result
    c.in-Ok-from_str_radix.n c.in-Ok-from_str_radix.is
    (rw c.in-Ok.ensures.cases.0 at c.from_str_radix.ensures.value) (sym c.is_revision.ensures ∙ c.if-is_revision.false)
