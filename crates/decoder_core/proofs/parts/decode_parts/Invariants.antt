use Rattle.std.proofs.Common.{◌≡◌, ◌+◌, ◌-◌, ◌^◌, ◌≤◌, ◌++◌, min, length}
use Rattle.decoder_core.proofs.Prelude.{run, places}
use Rattle.decoder_core.proofs.parts.decode_parts.Given as goal

abbrev pub invariant-parts : goal.invariant-parts
invariant-parts g l = record {
  base : l.collector.base + length l.rest ≡ length l.bytes;
  items : l.collector.all.items ++ places (length l.bytes) l.collector.from (run (g.D.Decoder.table l.decoder) l.state l.rest)
      ≡ places (length l.bytes) l.from (run (g.D.Decoder.table l.decoder) (g.D.Decoder.initial l.decoder) l.bytes);
  meter : min l.meter (2 ^ 64 - 1) ≡ min (l.fn.meter + l.collector.base) (2 ^ 64 - 1);
  least : l.fn.meter ≤ l.meter;
}
