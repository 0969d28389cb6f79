use Rattle.std.proofs.lemmas.List.{append_assoc}
use Rattle.decode_sums.proofs.sum.hash_text.Goals as goal

pub returns-clause-hashed : goal.returns-clause-hashed
returns-clause-hashed c m holds =
    rw (← append_assoc m _ _, ← c.in_ok-text.ensures.text, ← c.as_bytes.ensures.value)
    (c.update-2.ensures _ (c.update.ensures m holds))
