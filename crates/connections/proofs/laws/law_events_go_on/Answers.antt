use Rattle.connections.proofs.Clients as clients
use Rattle.connections.proofs.Prelude.{at_number}
use Rattle.connections.proofs.laws.law_events_go_on.Goals as goal

pub returns : goal.returns
returns c = record {
  occur-append = clients.occur-append;
  own-append = clients.own-append;
  small = λ t e. clients.number_fits t.lines e;
  same_fault = clients.same_fault;
  stood = λ t w c known s is. clients.known_line (at_number w c) known (rw is at (s.at c));
  none_own = clients.none_own;
  kept = clients.kept;
}
