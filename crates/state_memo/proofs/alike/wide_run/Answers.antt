use Rattle.std.proofs.Common.{◌≡◌, ◌<◌, ◌+◌, ◌*◌, ◌^◌, rules, arith, length}
use Rattle.state_memo.proofs.Fronts.{alike-behind, alike-counts}
use Rattle.state_memo.proofs.alike.wide_run.Goals as goal

pub returns-then-here-len-le16 : goal.returns-then-here-len-le16
returns-then-here-len-le16 c =
    alike-behind c.args.bytes.now c.windows.at c.args.len c.windows.count c.front_in_16-here.result c.windows.invariant.0
    c.windows.invariant.2 c.front_in_16-here.ensures.alike

pub windows-preserved : goal.windows-preserved
windows-preserved c =
    let sum : (c.windows.count + c.front_in_16-here.result) * c.args.len ≡ c.windows.count * c.args.len
    + c.front_in_16-here.result * c.args.len = omega arith in (
      omega (arith, sum, c.windows.invariant.0),
      omega (arith, c.front_in_16-here.ensures.within, c.windows-test.true, c.windows.invariant.1),
      alike-behind c.args.bytes.now c.windows.at c.args.len c.windows.count c.front_in_16-here.result c.windows.invariant.0
          c.windows.invariant.2 c.front_in_16-here.ensures.alike,
    )

pub overflow_add-result : goal.overflow_add-result
overflow_add-result c =
    let few : length c.args.bytes.now < 2 ^ 63 = search rules in
    omega (
      arith,
      few,
      alike-counts c.args.bytes.now c.windows.at c.args.len c.windows.count c.wide_rest.result
          (omega (arith, c.requires.len.0)) c.windows.invariant.0 c.windows.invariant.1 c.wide_rest.ensures,
    )

pub returns : goal.returns
returns c =
    alike-behind c.args.bytes.now c.windows.at c.args.len c.windows.count c.wide_rest.result c.windows.invariant.0 c.windows.invariant.2 c.wide_rest.ensures
