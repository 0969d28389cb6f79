use Rattle.std.proofs.Common.{◌≡◌, ◌++◌, List, fold}
use Rattle.decoder_core.proofs.Prelude.{chars, IsUtf8, chars_rest, run_width, plain_to, collect_one, seen_of, Shown}
use Rattle.decoder_core.proofs.collector.CollectorSink.plain.Given as goal

abbrev pub invariant-rest : goal.invariant-rest
invariant-rest g l = (front : List (Shown _)) × IsUtf8 (chars_rest l.rest)
    × (l.left ≡ run_width l.stride (chars (chars_rest l.rest)))
    × (plain_to l.stride l.fn.end l.fn._after (chars l.fn.text) ≡ front ++ plain_to l.stride l.fn.end l.fn._after (chars (chars_rest l.rest)))
    × (seen_of l.self ≡ fold collect_one (seen_of l.fn.self) front)
