use Rattle.desk.proofs.Prelude.{◌≡◌, false, is_some, rules, get}
use Rattle.desk.proofs.Open.{adopted_answers}
use Rattle.desk.proofs.desk.Desk.adopt.Goals as goal

pub returns : goal.returns
returns c =
    let free : is_some (get c.self.inside.documents.named c.args.name.now) ≡ false = search rules in
    rw (← c.self.view_is)
    (adopted_answers _ c.open.new.self c.args.name.now c.new.result _ c.args.bytes.now c.args.revision _
    c.new.ensures free c.in_ok-open.ensures.step c.in_ok-open.ensures.accepted c.in_ok-open.ensures.indexes)
