use Rattle.iso2022jp.proofs.from_state.encode_from.Goals as goal

pub returns : goal.returns
returns c = rw (c.new-encoder.ensures, c.in_ok-bytes.ensures, c.in_ok-after.ensures.bytes, c.in_ok-after.ensures.state)
