use Rattle.std.proofs.Common.{◌≡◌, ◌+◌, ◌<◌, length, take, ap, arith}
use Rattle.std.proofs.lemmas.Bool.Decides.{nat_tests}
use Rattle.line_protocol.proofs.FlatTokens.{beginning, going_on, ending}
use Rattle.line_protocol.proofs.request.flat.read.object_in.Goals as goal

pub members-init : goal.members-init
members-init c =
    let same = c.as_bytes-line.ensures.value in
    let some : 0 < length c.as_bytes-line.result.now = grind arith in
    let o = c.args.object.now in (
      beginning c.args.text.now c.as_bytes-line.result.now (take o.count o.members) same (ap (λ n. take n o.members) c.requires)
          some c.if-line-ne123.false,
      omega (arith, ap length same, some),
    )

pub returns-then-line-end-eq125 : goal.returns-then-line-end-eq125
returns-then-line-end-eq125 c = λ last.
    let o = c.members.object in
    let p = c.push.new.self in
    let at_end : c.in-Some.end + 1 ≡ length c.as_bytes-line.result.now = grind (arith, nat_tests) in
    ending c.args.text.now c.as_bytes-line.result.now (take o.count o.members) (take p.count p.members) c.in-Some.member c.members.at
    c.in-Some.end c.as_bytes-line.ensures.value
    c.push.ensures.members c.members.invariant.0 c.in-Some.ensures.0 at_end c.if-line-end-eq125.true

pub members-preserved : goal.members-preserved
members-preserved c =
    let same = c.as_bytes-line.ensures.value in
    let o = c.members.object in
    let p = c.push.new.self in (
      going_on c.args.text.now c.as_bytes-line.result.now (take o.count o.members) (take p.count p.members) c.in-Some.member
          c.members.at c.in-Some.end same
          c.push.ensures.members c.members.invariant.0 c.in-Some.ensures.0 (omega (arith, c.if-end-line.false)) c.if-line-end-ne44.false,
      omega (arith, ap length same, c.if-end-line.false),
    )
