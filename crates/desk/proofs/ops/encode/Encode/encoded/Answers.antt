use Rattle.desk.proofs.Prelude.{◌≡◌, true, rules, has_files}
use Rattle.desk.proofs.ops.encode.Encode.encoded.Goals as goal

pub returns : goal.returns
returns c =
    let can : has_files c.args.opened.now.document.indexes c.args.target ≡ true = search rules in
    let gives = rw (c.indexes-indexes.ensures, c.as_str.ensures.value, c.in_ok-part.ensures.chars) at (c.encoded_reply.ensures _ c.encode-answer.ensures) in
    rw (can, c.in_ok-part.ensures.faults) gives
