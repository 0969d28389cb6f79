use Rattle.std.proofs.Common.{◌≡◌, ◌+◌, ℕ, true, ap, arith, refl, take}
use Rattle.gateway.proofs.Headed.{none, some_there, over_takes, head_stops, head_takes, left_takes}
use Rattle.gateway.proofs.traces.headed.HeadedPlaceTakerGateway.take.Goals as goal

pub returns-then-self-clause-takes : goal.returns-then-self-clause-takes
returns-then-self-clause-takes g c =
    over_takes g.W.Outlet.took c.args.bytes.now (c.args.self.now, c.args.gateway.now, c.args.writer.now)
    (record { head = c.args.self.now.head; over = c.args.self.now.over; place = c.take.new.self }, c.take.new.gateway, c.take.new.writer)
    c.take.result c.if-self.true c.if-self.true refl c.take.ensures.takes

pub returns-then-is_empty-clause-takes : goal.returns-then-is_empty-clause-takes
returns-then-is_empty-clause-takes g c = none c.args.self.now.over c.args.gateway.now (g.W.Outlet.took c.args.writer.now) c.args.self.now

pub returns-in-Err-clause-takes : goal.returns-in-Err-clause-takes
returns-in-Err-clause-takes g c =
    rw c.line_fault.ensures (head_stops g.W.Outlet.took c.args.bytes.now (c.args.self.now, c.args.gateway.now, c.args.writer.now)
    (record { head = c.take-2.new.self; over = c.args.self.now.over; place = c.args.self.now.place }, c.take-2.new.gateway, c.args.writer.now)
    c.in-Err.fault c.if-self.false c.if-self.false c.in-Err.ensures.lines refl refl c.in-Err.ensures.takes)

pub returns-then-n-gt0-clause-takes : goal.returns-then-n-gt0-clause-takes
returns-then-n-gt0-clause-takes g c =
    head_takes g.W.Outlet.took c.args.bytes.now (c.args.self.now, c.args.gateway.now, c.args.writer.now) (
      record {
        head = c.take-2.new.self;
        over = c.args.self.now.over;
        place = record c.args.self.now.place { number = c.lines.result + 1 };
      },
      c.take-2.new.gateway,
      c.args.writer.now,
    )
    c.in-Ok.n c.if-self.false c.if-self.false c.in-Ok.ensures.lines refl (λ f. record { begun = f.begun; plain = f.plain })
    (λ n. ap (λ (k : ℕ). k + 1) c.lines.ensures) c.in-Ok.ensures.takes

pub returns-clause-takes : goal.returns-clause-takes
returns-clause-takes g c =
    let some = some_there c.args.bytes.now c.is_empty.result c.is_empty.ensures c.if-is_empty.false in
    let n : c.in-Ok.n ≡ 0 = omega (arith, c.if-n-gt0.false) in
    let over = c.in-Ok.ensures.over some n in
    let on = rw n at c.in-Ok.ensures.takes in
    left_takes g.W.Outlet.took c.args.bytes.now (c.args.self.now, c.args.gateway.now, c.args.writer.now)
    (record { head = c.take-2.new.self; over = true; place = c.take-3.new.self }, c.take-3.new.gateway, c.take-3.new.writer)
    c.take-2.new.gateway c.take-2.new.self (record c.args.self.now.place { number = c.lines.result + 1 }) c.if-self.false refl some over on
    c.in-Ok.ensures.lines
    (λ f. record { begun = f.begun; plain = f.plain }) (ap (λ (k : ℕ). k + 1) c.lines.ensures) refl c.take-3.result c.take-3.ensures.bound
    c.take-3.ensures.some c.take-3.ensures.takes
