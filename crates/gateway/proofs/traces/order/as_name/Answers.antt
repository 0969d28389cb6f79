use Rattle.std.proofs.{Common.arith, Common.ap, lemmas.Str.IsUtf8-string_bytes}
use Rattle.gateway.proofs.Revisions.{named_ok, named_not}
use Rattle.gateway.proofs.traces.order.as_name.Goals as goal

pub returns-in-Ok-clause-is : goal.returns-in-Ok-clause-is
returns-in-Ok-clause-is c = named_ok c.args.bytes.items _ (ap (λ v. v.items) c.in-Ok.ensures.ok) (IsUtf8-string_bytes c.in-Ok.name) (omega arith) (omega arith)

pub returns-clause-is : goal.returns-clause-is
returns-clause-is c = named_not c.args.bytes.items (λ utf8. (let never = c.in-Err.ensures.succeeds utf8 in cc))
