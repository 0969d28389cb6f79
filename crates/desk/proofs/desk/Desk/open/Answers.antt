use Rattle.desk.proofs.Prelude.{◌≡◌, false, is_some, Some, refl, rules, get, lookup_in}
use Rattle.desk.proofs.desk.Desk.open.Goals as goal

pub returns-in-Some : goal.returns-in-Some
returns-in-Some c =
    let free : is_some (get c.self.inside.documents.named c.args.command.now.doc.now) ≡ false = search rules in
    let named : lookup_in c.self.inside.labels c.args.command.now.label.now ≡ Some c.in-Some.given = search rules in
    let step = rw (c.new-setting.ensures, c.deref.ensures.value) at c.open.ensures.step in
    rw (← c.self.view_is) (record { step = rw (c.in_ok-bytes.ensures, free, named) step; indexes = c.open.ensures.indexes; labels = refl; turn = refl })
