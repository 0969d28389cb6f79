use Rattle.std.proofs.Common.{◌≡◌, ◌≢◌, [], ◌++◌, Some, refl, sym, ap, ◌∙◌, slice_set, take, drop}
use Rattle.devices.specs.Wires.{taken_count}
use Rattle.sessions.specs.declared.sessions.Advance.TheVariants.{Moved}
use Rattle.sessions.proofs.Steps as steps
use Rattle.sessions.proofs.sessions.Sessions.write_to.Goals as goal
use Rattle.sessions.proofs.sessions.Sessions.write_to.Goals.{in-Ok+then-count-eq0, in-Ok+else-count-eq0, in-Err}

pub returns-clause-step : goal.returns-clause-step
returns-clause-step g c =
    let session = c.in-Some.session in
    let after = c.match-write.session in
    let count = taken_count c.write.result in
    let was = sym c.in-Some.ensures.session in
    let wrote : (after.input ≡ session.input) × (after.unsent ≡ drop count session.unsent) = elim c.match-write.branch [
      | in-Ok+then-count-eq0 w ↦ rw (w.session-is, w.in-Ok.is) (w.send.ensures.input, w.send.ensures.unsent)
      | in-Ok+else-count-eq0 w ↦ rw (w.session-is, w.in-Ok.is) (w.send.ensures.input, w.send.ensures.unsent)
      | in-Err w ↦ rw (w.session-is, w.in-Err.is) (refl, refl)
    ] in
    let more : session.unsent ≢ [] = rw (steps.found_is c.self.view_is was c.requires.1) c.requires.2 in
    let some : c.match-write.advance ≡ Moved → take count session.unsent ≢ [] = λ m. elim c.match-write.branch [
      | in-Ok+then-count-eq0 w ↦ absurd (let e = sym m ∙ w.advance-is in cc)
      | in-Ok+else-count-eq0 w ↦ steps.take_some count session.unsent (λ z. w.if-count-eq0.false (sym (ap taken_count w.in-Ok.is) ∙ z)) more
      | in-Err w ↦ absurd (let e = sym m ∙ w.advance-is in cc)
    ] in
    let sent : g.W.Wire.sent c.write.new.self ≡ g.W.Wire.sent c.args.wire.now ++ take count session.unsent = rw c.unsent.ensures at c.write.ensures.sent in
    rw (← c.self.view_is) (steps.advance_gets _ c.args.c _ _ (g.W.Wire.received c.args.wire.now) (g.W.Wire.received c.write.new.self)
    (g.W.Wire.sent c.args.wire.now) (g.W.Wire.sent c.write.new.self) (take count session.unsent) some (
    steps.gets (g.G.KeepsEvents.traffic c.self.inside.gateway) c.self.inside.slots c.args.c after was
    (c.put.ensures.put ∙ ap (λ l. slice_set l c.args.c (Some after)) c.in-Some.ensures.rest) count wrote.0 wrote.1
    ) c.write.ensures.received sent)

pub invariant_of-self : goal.invariant_of-self
invariant_of-self g c =
    steps.put_match (g.G.KeepsEvents.traffic c.self.inside.gateway) c.self.inside.slots c.args.c c.match-write.session (sym c.in-Some.ensures.session)
    (c.put.ensures.put ∙ ap (λ l. slice_set l c.args.c (Some c.match-write.session)) c.in-Some.ensures.rest) c.self.invariant

pub returns-clause-kept : goal.returns-clause-kept
returns-clause-kept g c = λ e. elim c.match-write.branch [
  | in-Ok+then-count-eq0 w ↦ (let x = sym e ∙ w.advance-is in cc)
  | in-Ok+else-count-eq0 w ↦ (let x = sym e ∙ w.advance-is in cc)
  | in-Err w ↦ (let x = sym e ∙ w.advance-is in cc)
]
