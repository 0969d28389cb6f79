-- A collector as contracts see it.
use Rattle.decoder_core.specs.{declared.collector.Collector.Collector, Collected.Collected}

abbrev pub seen_of : Collector → Collected
seen_of c = record { all = c.all.items; base = c.base; from = c.from }
