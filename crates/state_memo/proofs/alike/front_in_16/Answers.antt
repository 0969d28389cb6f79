use Rattle.std.proofs.Common.{◌<◌, ◌^◌, rules}
use Rattle.state_memo.proofs.Fronts.{front-of, quotient-least, within-16}
use Rattle.state_memo.proofs.alike.front_in_16.Goals as goal

pub returns-clause-alike : goal.returns-clause-alike
returns-clause-alike c =
    front-of c.args.bytes.now c.args.len c.leads_of-low.result.0 c.leads_of-low.result.1 c.firsts_of.result c.outside_in_16.result
    c.requires.room c.requires.len.0 c.outside_in_16.ensures c.firsts_of.ensures c.leads_of-low.ensures

pub returns-clause-within : goal.returns-clause-within
returns-clause-within c =
    let small : c.outside_in_16.result < 2 ^ 64 = search rules in
    within-16 c.outside_in_16.result c.firsts_of.result c.args.len small

pub returns-clause-few : goal.returns-clause-few
returns-clause-few c =
    let small : c.outside_in_16.result < 2 ^ 64 = search rules in
    quotient-least _ c.args.len c.requires.len.0 (within-16 c.outside_in_16.result c.firsts_of.result c.args.len small)
