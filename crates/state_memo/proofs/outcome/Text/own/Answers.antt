use Rattle.std.proofs.Common.{◌∙◌, ap, sym, subst}
use Rattle.std.{proofs.lemmas.Str.IsUtf8-string_bytes, specs.Str.IsUtf8}
use Rattle.state_memo.proofs.outcome.Text.own.Goals as goal

pub invariant_of-result : goal.invariant_of-result
invariant_of-result c =
    subst IsUtf8 (sym (ap (λ bytes. bytes.items) (c.in_ok-new.ensures.ok ∙ c.into_bytes.ensures.value))) (IsUtf8-string_bytes c.if-capacity-len.fitted)
