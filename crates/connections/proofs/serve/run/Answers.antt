use Rattle.std.proofs.Common.{◌≡◌, sym, ◌∙◌, add-zero, rules}
use Rattle.connections.proofs.Runs.{all_kept, still_open, runs_fine, runs_stopped}
use Rattle.connections.specs.declared.serve.RunFault.TheVariants as fault
use Rattle.connections.proofs.serve.run.Goals as goal

pub close-requires : goal.close-requires
close-requires g c =
    still_open g.G.KeepsEvents.keeps_all g.G.KeepsEvents.traffic g.W.Outlet.took _ _ _ _ c.in_ok-open.ensures.is_open
    (Unit {0}) c.pump-result.result c.pump-result.ensures.takes

pub returns-in-Ok : goal.returns-in-Ok
returns-in-Ok g c =
    let fine = runs_fine g.G.KeepsEvents.keeps_all g.G.KeepsEvents.traffic g.W.Outlet.took _ _ _ _ c.in_ok-open.ensures.is_open
    (g.G.KeepsEvents.traffic c.args.gateway.now) (g.G.KeepsEvents.traffic c.close.new.gateway)
    (record { small = c.in_ok-open.ensures.number; is = c.in_ok-open.ensures.opened }) (record { small = c.close.ensures.number; is = c.close.ensures.closed })
    c.in-Ok.ensures.takes in
    record {
      not_free = search rules;
      untouched = search rules;
      runs = fine.0;
      reads = search rules;
      write_failures = fine.1 ∙ sym (add-zero _);
      keeps = search rules;
    }

pub returns-in-Err : goal.returns-in-Err
returns-in-Err g c =
    let stopped = runs_stopped g.G.KeepsEvents.keeps_all g.G.KeepsEvents.traffic g.W.Outlet.took _ _ _ _ c.in_ok-open.ensures.is_open
    (g.G.KeepsEvents.traffic c.args.gateway.now) (g.G.KeepsEvents.traffic c.close.new.gateway)
    (record { small = c.in_ok-open.ensures.number; is = c.in_ok-open.ensures.opened }) (record { small = c.close.ensures.number; is = c.close.ensures.closed })
    (Unit {0}) (Unit {0}) c.in-Err.stop c.in-Err.ensures.takes in
    record {
      not_free = search rules;
      untouched = search rules;
      runs = rw c.fault_of.ensures stopped.0;
      reads = search rules;
      write_failures = rw c.fault_of.ensures stopped.1;
      keeps = λ keeps e. let same : c.fault_of.result ≡ fault.Unkept = cc in
          all_kept g.G.KeepsEvents.keeps_all g.G.KeepsEvents.traffic g.W.Outlet.took _ _ _ _
          c.in_ok-open.ensures.is_open (Unit {0}) c.in-Err.stop c.in-Err.ensures.takes keeps (sym c.fault_of.ensures ∙ same);
    }
