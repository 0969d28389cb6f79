use Rattle.std.proofs.{Common.◌≡◌, Common.◌∙◌, Common.Some, Common.[], Common.ap, Common.sym, Common.unwrap_or, Common.option_map, lemmas.List.map-set}
use Rattle.index_loader.{proofs.SlotLemmas.kept-put, specs.Files.Files, specs.Kinds.home_of, specs.Kinds.slot_of}
use Rattle.index_loader.proofs.indexes.Indexes.put.Goals as goal

pub invariant_of-self : goal.invariant_of-self
invariant_of-self c =
    let place : slot_of c.args.index.kind ≡ Some c.in-Some.slot = sym (c.in-Some.ensures.value ∙ ap slot_of c.kind.ensures.value) in
    let home : home_of c.args.index.kind ≡ c.args.index.kind = rw c.kind.ensures.value at c.kind.ensures.home in
    kept-put c.self.inside.slots c.args.index c.in-Some.slot c.self.invariant home place

pub returns : goal.returns
returns c =
    let place : slot_of c.args.index.kind ≡ Some c.in-Some.slot = sym (c.in-Some.ensures.value ∙ ap slot_of c.kind.ensures.value) in
    rw (← c.self.view_is, place)
    (ap (λ pairs. let files : Files = record { slots = pairs; exceptions = unwrap_or c.self.inside.exceptions [] } in files)
    (map-set (option_map (λ index. index.pairs)) c.self.inside.slots c.in-Some.slot (Some c.args.index)))
