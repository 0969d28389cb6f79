use Rattle.std.proofs.Common.{◌≡◌, ◌∙◌, ◌<◌, None, [], unwrap_or, arith, get_or, length, option_copied, sym}
use Rattle.std.proofs.lemmas.List.{get_or_default}
use Rattle.index_loader.proofs.SlotLemmas.{index-at}
use Rattle.index_loader.proofs.indexes.Indexes.get.Goals as goal

pub returns : goal.returns
returns c =
    let within : c.in_ok-slot.field-0 < length c.self.inside.slots = omega (arith, c.in_ok-slot.ensures.bound) in
    let found : option_copied c.as_ref.result ≡ get_or c.self.inside.slots c.in_ok-slot.field-0 None =
    c.as_ref.ensures.value ∙ get_or_default c.self.inside.slots c.in_ok-slot.field-0 _ None within in
    rw (← c.self.view_is)
    (index-at (unwrap_or c.self.inside.exceptions []) c.self.inside.slots c.args.kind c.in_ok-slot.field-0 c.as_ref.result
    c.self.invariant (sym c.in_ok-slot.ensures.value) found)
