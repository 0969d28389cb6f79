use Rattle.codec.proofs.by_any.decode_any.Goals as goal

pub returns-in-Some-clause-ok : goal.returns-in-Some-clause-ok
returns-in-Some-clause-ok c =
    rw (c.law_standing.ensures.run c.args.decoder.now c.args.bytes.now, ← c.setting.ensures, ← c.in-Some.ensures.value) c.decode_marked.ensures.ok

pub returns-in-None-clause-ok : goal.returns-in-None-clause-ok
returns-in-None-clause-ok c =
    rw (c.law_standing.ensures.run c.args.decoder.now c.args.bytes.now, ← c.setting.ensures, ← c.in-None.ensures.value) c.decode_own.ensures.ok
