use Rattle.std.proofs.Common.{◌∙◌, ap, take_all, length, arith}
use Rattle.streams.specs.Counting.{count_of}
use Rattle.streams.proofs.Numbers.{count-bytes}
use Rattle.streams.proofs.counts.count_of.Goals as goal

pub returns : goal.returns
returns c =
    let bytes = c.as_bytes-found-items.result.now in
    let all = take_all c.bytes.found-index bytes (omega (arith, c.bytes-test.false)) in
    c.bytes.invariant ∙ ap (count_of c.args.byte) all ∙ ap (count_of c.args.byte) c.as_bytes-found-items.ensures.value
    ∙ count-bytes c.args.byte c.requires c.args.text.now c.utf8.text
