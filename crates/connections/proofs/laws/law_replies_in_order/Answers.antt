use Rattle.connections.proofs.Clients as clients
use Rattle.connections.proofs.laws.law_replies_in_order.Goals as goal

pub returns : goal.returns
returns c = record { begin = clients.none_is_begun; order = clients.law_replies_in_order; replies = clients.replies_are_own; lines = clients.lines_are_own }
