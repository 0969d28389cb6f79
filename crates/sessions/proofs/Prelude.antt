-- What proofs here name, passed on from one place. Declares nothing.
pub use Rattle.std.proofs.Common.{◌≡◌, ◌≢◌, ◌⊎◌, ℕ, ◌+◌, ◌<◌, ◌≤◌, ◌==◌, Bool, true, false, ◌&&◌, not, List, [], ◌∷◌, ◌++◌, length, drop, take, replicate}
pub use Rattle.std.proofs.Common.{Option, None, Some, if◌then◌else◌, slice_set, refl, sym, ap, ◌∙◌, subst, inl, inr, arith, append_assoc, append-nil}
pub use Rattle.std.proofs.Common.{length-set, get_or-set_other, get_or-set_same, eqb-true}
pub use Rattle.std.proofs.lemmas.Bool.{eqb-false, Decides.eqb_tells}
pub use Rattle.connections.specs.{Lines.complete, Lines.unfinished, Lines.has_end, Lines.before_end, Traffic.Traffic, Traffic.Partial, Traffic.Received}
pub use Rattle.connections.specs.{Traffic.Stands, Events.Happening, Events.Opening, Events.Bringing, Events.Closing}
pub use Rattle.connections.specs.Events.{connections, at_number, unless_open, unless_closed, unless_bad_number, gate_fault, Took, Happens, with_line, line_at}
pub use Rattle.connections.specs.Clients.{Numbered, number_of, sent_to, OccursBy, Occurs, OccurAll, BegunLines, or_empty, begun_on, accepted, completed}
pub use Rattle.connections.specs.Clients.{unless_refused, begun_after, lines_in, lines_of, begun_after_all, ServesAll, StandsAt, StandFor, RepliesInOrder, own}
pub use Rattle.connections.specs.{CitedLaws.LinesCut, CitedLaws.EventsGoOn, declared.gateway.GateFault.GateFault}
pub use Rattle.sessions.specs.Sessions.{Client, Hall, client_at, fresh_client, Act, Joins, Sends, Asks, Gets, Leaves, with_client, Joined, Sent, Asked, Got}
pub use Rattle.sessions.specs.{Sessions.Left, Sessions.Acts, Sessions.ActAll, Sessions.Did, Sessions.Matches, Sessions.Present, Reaching.came_by}
pub use Rattle.sessions.specs.Reaching.{came, went_by, went, stays_by, stays, joined, ActsAreEvents, SessionsInOrder, AnswersReach, LinesAreTaken, HasLittle}
pub use Rattle.sessions.{specs.Reaching.InputIsLittle, specs.Reaching.ActsInARow, proofs.Number.number_within, proofs.Number.number_some}
