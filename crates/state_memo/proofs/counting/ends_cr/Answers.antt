use Rattle.state_memo.proofs.Marks.{last-read, none-last}
use Rattle.state_memo.proofs.counting.ends_cr.Goals as goal

pub returns-in-Some : goal.returns-in-Some
returns-in-Some c = last-read c.args.after_cr c.args.text.now c.as_bytes.result.now c.in-Some.byte.now c.utf8.text c.as_bytes.ensures.value
    c.in-Some.ensures.value

pub returns-in-None : goal.returns-in-None
returns-in-None c = none-last c.args.after_cr c.args.text.now c.as_bytes.result.now c.utf8.text c.as_bytes.ensures.value c.in-None.ensures.value
