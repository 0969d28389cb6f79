use Rattle.std.proofs.Common.{◌≡◌, rules, to_z, of_z, w16}
use Rattle.state_memo.specs.{Runs.runs_of_last}
use Rattle.state_memo.proofs.Prelude.{chars, items_of_run}
use Rattle.std.proofs.lemmas.Grind.{flat_map-append}
use Rattle.state_memo.specs.Plain.{plain_runs}
use Rattle.state_memo.proofs.PlainTexts.{runs-front, runs-plain}
use Rattle.state_memo.proofs.plain_items.PlainItems.runs.Goals as goal

pub returns : goal.returns
returns c =
    let p = c.self.inside in
    let cs = chars c.behind-rest.result.now in
    let kind = c.one-kind.result in
    let from : to_z w16 (of_z w16 p.from) ≡ p.from = search rules in
    let rest = plain_runs p.stride kind p.from cs in
    rw (c.new.ensures, from, flat_map-append items_of_run (runs_of_last p.front) rest, runs-front p.front)
    (rw (runs-plain p.stride kind p.from p.output cs c.one-kind.ensures, c.behind-rest.ensures) c.self.view_is)
