use Rattle.std.proofs.Common.{◌∙◌, ◌≤◌, ap, arith, length, sym}
use Rattle.std.proofs.lemmas.List.{drop_all}
use Rattle.state_memo.specs.Runs.{items_of_last}
use Rattle.state_memo.proofs.Prelude.{all_scalars, chars-nil}
use Rattle.state_memo.proofs.plain_items.behind.Goals as goal

pub returns-in-None : goal.returns-in-None
returns-in-None c =
    let past : length c.args.text.now ≤ all_scalars (items_of_last c.args.front) =
    omega (arith, c.in-None.ensures.cut, ap length c.as_str.ensures, c.scalars_in.ensures) in
    chars-nil ∙ sym (drop_all (all_scalars (items_of_last c.args.front)) c.args.text.now past)
