-- What many proofs here name, passed on from one place. Declares nothing.
pub use Rattle.std.proofs.Common.{◌≡◌, ◌+◌, ◌-◌, ◌*◌, ◌≤◌, length, take, drop, OnErr, Err, decimal, bytes_eq, sym, refl, ap, ◌∙◌, subst, add-zero, arith}
pub use Rattle.std.proofs.Common.{length-drop, length-take, take_all, rules, lt-ltb}
pub use Rattle.std.{proofs.KnownBytes.Appends-trans, proofs.KnownBytes.Appends-nil, specs.Io.KnownBytes.Appends, specs.Io.KnownBytes.IsAtEnd}
pub use Rattle.connections.specs.{CitedLaws.EventsGoOn, CitedLaws.LinesCut, Clients.Numbered, Clients.number_of, Clients.sent_to, Clients.Occurs}
pub use Rattle.connections.specs.{Clients.OccurAll}
pub use Rattle.connections.specs.{Clients.RepliesInOrder, Events.Happening, Events.Bringing, Events.gate_fault, Events.Took, Events.Happens, Events.Opening}
pub use Rattle.connections.specs.{Events.Closing, Lines.complete, Lines.unfinished, Lines.has_end, Lines.before_end, Traffic.Dropped, Traffic.Partial}
pub use Rattle.connections.specs.{Traffic.Received, Traffic.StandsWithin, Traffic.Traffic, Traffic.known_of, declared.gateway.GateFault.GateFault}
pub use Rattle.devices.specs.declared.device.Failed.{Failed}
pub use Rattle.gateway.specs.Trace.{is_comment, is_skipped, IsBad, PrintsLine, PrintsAll, text_lines, StopsAtBad, StopsInPrint, StopsForMemory, PlaysLines}
pub use Rattle.gateway.specs.Trace.{printed, printed_all, after_ends, parts, refusal_line, PrintsBy, Traces, before_space, after_space, number_below}
pub use Rattle.gateway.specs.{TraceLines.Drops, TraceLines.MayBe, TraceLines.PlaysLine, TraceLines.Stuck, Tracing.FeedsOn, Tracing.Feeds}
pub use Rattle.gateway.specs.Tracing.{Anything, FeedStops, numbered_fault, bringings, Plays, PlaysRest, Played, WritesAll, PrintsReply, Fed, FedUntil, fault_by}
pub use Rattle.gateway.specs.declared.traces.fault.LineFault.{LineFault, TheVariants.Bad, TheVariants.Write, TheVariants.OutOfMemory}
pub use Rattle.gateway.specs.declared.traces.feeding.TracePlace.{TracePlace}
unfoldable pub use Rattle.gateway.specs.Trace.{number_in}
