use Rattle.state_memo.proofs.Marks.{first-read, none-read}
use Rattle.state_memo.proofs.counting.begins_lf.Goals as goal

pub returns-in-Some : goal.returns-in-Some
returns-in-Some c = first-read c.args.text.now c.as_bytes.result.now c.in-Some.byte.now c.utf8.text c.as_bytes.ensures.value c.in-Some.ensures.value

pub returns-in-None : goal.returns-in-None
returns-in-None c = none-read c.args.text.now c.as_bytes.result.now c.utf8.text c.as_bytes.ensures.value c.in-None.ensures.value
