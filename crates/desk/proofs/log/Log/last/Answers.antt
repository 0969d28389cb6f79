use Rattle.std.proofs.Common.{◌≡◌, ◌-◌, ◌<◌, nat_lt, true, length, ap, ◌∙◌, sym, arith, Some, slice_get, option_copied, lt-ltb}
use Rattle.desk.{specs.Log.all_leave, specs.Log.both_untouched, proofs.Logs.one-earlier}
use Rattle.desk.proofs.log.Log.last.Goals as goal

pub edits-preserved : goal.edits-preserved
edits-preserved c =
    let few : c.edits.number < length c.args.self.now = omega (arith, c.edits-test.true, c.requires) in
    let found : slice_get c.args.self.now (length c.args.self.now - c.edits.number - 1) ≡ Some c.in-Some.edit.now =
    let test : nat_lt c.edits.number (length c.self.inside.edits.items) ≡ true = rw c.self.view_is (lt-ltb c.edits.number (length c.args.self.now) few) in
    rw (← c.self.view_is) (sym (rw test at c.nth_back.ensures) ∙ ap option_copied c.in-Some.is) in
    c.and-left.ensures
    ∙ ap (both_untouched c.in-Some.edit.now) c.edits.invariant
    ∙ ap (all_leave c.args.bytes) (sym (one-earlier c.args.self.now c.edits.number c.in-Some.edit.now few found))
