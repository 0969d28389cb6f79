use Rattle.std.proofs.{Common.ℕ, Common.◌<◌, Common.sym, Common.ap, Common.subst, Common.◌∙◌, Common.length, lemmas.Str.utf8_valid_len-IsUtf8}
use Rattle.lane_utf.proofs.valid.valid_run.Goals as goal

pub returns-in-Ok-clause-longest : goal.returns-in-Ok-clause-longest
returns-in-Ok-clause-longest c = ap length c.in-Ok.ensures.cases.0 ∙ sym (utf8_valid_len-IsUtf8 c.args.bytes.now c.in-Ok.ensures.cases.1)

pub returns-in-Err-clause-no_longer : goal.returns-in-Err-clause-no_longer
returns-in-Err-clause-no_longer c n above within = c.in-Err.ensures.cases.1.longest n (subst (λ (k : ℕ). k < n) c.valid_up_to.ensures above)
