use Rattle.std.proofs.Common.{◌≡◌, ◌+◌, ap, arith, length-take}
use Rattle.connections.specs.Traffic.{taken_of}
use Rattle.gateway.{specs.Head.HeadPlace, proofs.Heads.skips_end}
use Rattle.gateway.proofs.traces.head_reader.HeadReader.skip.Goals as goal

pub returns-in-Some-clause-skips : goal.returns-in-Some-clause-skips
returns-in-Some-clause-skips c = λ office.
    let found = c.in-Some.ensures in
    let next : c.saturating_add-self-inside.result ≡ c.self.inside.lines + 1 =
    omega (arith, c.saturating_add-self-inside.ensures, c.requires.room, found.1, ap (λ (h : HeadPlace). h.lines) c.self.view_is) in
    let taken : c.in-Some.end + 1 ≡ taken_of c.args.bytes.now =
    rw (found.0, found.2) (omega (arith, length-take c.in-Some.end c.args.bytes.now, found.1)) in
    skips_end c.law_lines.ensures c.self.inside.comment c.self.inside.begun c.self.inside.parts c.args.bytes.now c.self.inside.lines c.args.self.now office
    c.self.view_is c.requires.comment (c.in-Some.end + 1) c.saturating_add-self-inside.result c.self.invariant found.0 taken next
