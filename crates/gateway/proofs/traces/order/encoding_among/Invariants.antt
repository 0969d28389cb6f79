-- The word is the name of no encoding so far.
use Rattle.std.proofs.Common.{◌≡◌, drop}
use Rattle.gateway.specs.Head.{encoding_among}
use Rattle.gateway.proofs.traces.order.encoding_among.Given as goal

abbrev pub invariant-loop-encoding : goal.invariant-loop-encoding
invariant-loop-encoding l = encoding_among l.encodings l.word ≡ encoding_among (drop l.encoding-index l.encodings) l.word
