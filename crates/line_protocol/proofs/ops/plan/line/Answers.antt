use Rattle.line_protocol.proofs.ops.plan.line.Goals as goal

pub returns : goal.returns
returns c =
    rw (
      c.as_str.ensures.value,
      c.in_ok-bytes.ensures.text,
      c.as_slice.ensures,
      c.as_slice-3.ensures,
      c.as_str-2.ensures.value,
      c.in_ok-old.ensures.text,
      c.as_slice-2.ensures,
    ) at c.sent_line.ensures
