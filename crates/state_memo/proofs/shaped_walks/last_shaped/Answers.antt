use Rattle.std.proofs.Common.{◌≡◌, ◌-◌, ap, sym, ◌∙◌, Some, List, length, slice_get, rules, to_z, of_z, w64}
use Rattle.state_memo.proofs.{Prelude.Run, Prelude.item_of_kind, Prelude.items_of_runs, Walks.last-item, Walks.none-last}
use Rattle.state_memo.proofs.shaped_walks.last_shaped.Goals as goal

pub returns-in_err-run : goal.returns-in_err-run
returns-in_err-run c =
    let none = none-last c.args.shaped.now (sym c.in_err-run.ensures) in
    search rules ∙ sym (ap (λ (rs : List Run). slice_get (items_of_runs rs) (length (items_of_runs rs) - 1)) none)

pub returns : goal.returns
returns c =
    let run = c.in_ok-run.run' in
    let last : to_z w64 (of_z w64 c.from.result) ≡ run.last = search rules in
    ap Some (c.at.ensures ∙ ap (item_of_kind run.kind) last) ∙ sym (last-item c.args.shaped.now run (sym c.in_ok-run.ensures))
