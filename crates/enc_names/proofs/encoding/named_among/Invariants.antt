-- No encoding so far has the name.
use Rattle.std.proofs.Common.{◌≡◌, drop}
use Rattle.enc_names.specs.LabelFile.{named_among}
use Rattle.enc_names.proofs.encoding.named_among.Given as goal

abbrev pub invariant-loop-encoding : goal.invariant-loop-encoding
invariant-loop-encoding l = named_among l.encodings l.name ≡ named_among (drop l.encoding-index l.encodings) l.name
