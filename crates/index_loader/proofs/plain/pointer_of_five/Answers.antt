use Rattle.std.proofs.{Common.rules, lemmas.List.take_rest}
use Rattle.index_loader.proofs.PlainLemmas.{pointer-of_five}
use Rattle.index_loader.proofs.plain.pointer_of_five.Goals as goal

pub returns : goal.returns
returns c =
    rw take_rest (pointer-of_five c.args.text.now _ _ _ _ (search rules) (search rules) c.from_le_bytes-places.ensures
    c.in_ok-number.ensures c.from_le_bytes.ensures c.in_ok-last.ensures.bytes c.in_ok-last.ensures.small)
