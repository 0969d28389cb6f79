use Rattle.std.proofs.Common.{◌≡◌, ap, sym, ◌∙◌, Some, rules, to_z, of_z, w64}
use Rattle.state_memo.proofs.{Prelude.item_of_kind, Walks.last-item}
use Rattle.state_memo.proofs.run_walks.last_of.Goals as goal

pub returns : goal.returns
returns c =
    let run = c.in_ok-run.run'.now in
    let last : to_z w64 (of_z w64 c.from.result) ≡ run.last = search rules in
    ap Some (c.at.ensures ∙ ap (item_of_kind run.kind) last) ∙ sym (last-item c.args.runs.now run (sym c.in_ok-run.ensures.value))
