use Rattle.index_loader.proofs.PlainLemmas.{number-with}
use Rattle.index_loader.proofs.plain.pointer_of_any.Goals as goal

pub returns : goal.returns
returns c = record {
  behind = c.in_ok-behind.field-0.now;
  prefix = c.in_ok-behind_0x.ensures;
  first = number-with 10 _ _ _ _ c.in_ok-behind.was (rw (← c.behind_spaces.ensures) c.in_ok-pointer.ensures);
}
