use Rattle.std.proofs.Common.{◌≡◌, ◌+◌, ◌*◌, ◌≤◌}
use Rattle.devices.specs.Reading.{ReadSo, Taken, most_bytes}
use Rattle.devices.proofs.reading.pump.Given as goal

abbrev pub invariant-loop : goal.invariant-loop
invariant-loop g l = record {
  so : ReadSo (λ read. Taken g.T.Taker.takes read (l.initial.taker, l.initial.on, l.initial.writer) (l.taker, l.on, l.writer))
      (g.R.Feed.seen l.initial.reader) (g.R.Feed.seen l.reader);
  ready : g.T.Taker.ready (l.taker, l.on, l.writer);
  room : most_bytes ≤ g.T.Taker.room (l.taker, l.on, l.writer) + 4096 * l.counter;
  ends : (g.R.Feed.seen l.reader).ends ≡ (g.R.Feed.seen l.initial.reader).ends;
  reads : (g.R.Feed.seen l.reader).reads ≡ (g.R.Feed.seen l.initial.reader).reads + l.counter;
  failures : (g.R.Feed.seen l.reader).failures ≡ (g.R.Feed.seen l.initial.reader).failures;
}
