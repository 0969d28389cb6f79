use Rattle.std.proofs.{Common.◌+◌, Common.◌∙◌, Common.arith, Common.nat_eq, Common.sym, lemmas.Bool.cases_Bool, lemmas.Bool.eqb-true}
use Rattle.lane_ascii.{specs.Leads.AreHigh, proofs.FirstLines.high-goes-on, proofs.FirstLines.high-mask}
use Rattle.lane_ascii.proofs.first_line.may_end.Goals as goal

pub returns : goal.returns
returns c none =
    let bytes = c.args.bytes.now in
    let at = c.args.at in
    let all : AreHigh c.lower-3.result =
    high-mask c.lower-3.result (sym c.low_in.ensures ∙ eqb-true c.low_in.result 0 (grind (arith, cases_Bool (nat_eq c.low_in.result 0), none))) in
    let halves = c.lower-3.ensures all in
    let front = c.lower.ensures halves.0 in
    let back = c.lower-2.ensures halves.1 in
    let one = high-goes-on bytes at (omega (arith, c.requires.room)) front.0 c.requires.front in
    let two = high-goes-on bytes (at + 16) (omega (arith, c.requires.room)) front.1 one in
    let three = high-goes-on bytes (at + 32) (omega (arith, c.requires.room)) back.0 (omega (arith, two)) in
    omega (arith, high-goes-on bytes (at + 48) (omega (arith, c.requires.room)) back.1 (omega (arith, three)))
