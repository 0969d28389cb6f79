-- What many proofs here name, passed on from one place. Declares nothing.
pub use Rattle.std.proofs.Common.{◌≡◌, ◌+◌, ◌-◌, ◌≤◌, length, take, Err, sym, refl, ap, add-zero, arith, length-set, take_all, is_some, get_or-set_other}
pub use Rattle.std.proofs.{Common.get_or-set_same, Common.ltb-true, Common.lt-ltb, Common.eqb-true, KnownBytes.Appends-trans, KnownBytes.Appends-nil}
pub use Rattle.std.{proofs.lemmas.Bool.eqb-false, proofs.lemmas.Bool.false_from_ne_true, specs.Io.KnownBytes.Appends}
pub use Rattle.desk.specs.Desk.{Office}
pub use Rattle.connections.specs.Delivery.{IsOpen, Delivered, DeliveredUntil, Halts, Begun, WritesReply}
pub use Rattle.connections.specs.Events.{Happening, Opening, Bringing, Closing, connections, at_number, unless_open, unless_closed, unless_bad_number, line_at}
pub use Rattle.connections.specs.Events.{gate_fault, Took, Happens, with_line}
pub use Rattle.connections.specs.Lines.{has_end, before_end, complete, unfinished}
pub use Rattle.connections.specs.Serving.{Serves, Breaks, SameOthers, RanAs, Ran, RanUntil, RanFront, RunGives}
pub use Rattle.connections.specs.{Traffic.Traffic, Traffic.Partial, Traffic.Received, Traffic.Stands, declared.gateway.GateFault.GateFault}
