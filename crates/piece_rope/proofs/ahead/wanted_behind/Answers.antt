use Rattle.piece_rope.proofs.Prelude.{ap, arith, length, take, texts_of}
use Rattle.piece_rope.proofs.Stopping.{awaits-from, awaits-on, ok-then, stops-when, unlike-on}
use Rattle.piece_rope.{proofs.Texts.texts-append, proofs.ahead.wanted_behind.Goals.After-past_all, specs.Ahead.Awaits, specs.Ahead.IsChange, specs.Ahead.Strays}
use Rattle.piece_rope.proofs.ahead.wanted_behind.Goals as goal

-- what is wanted from the first of the new pieces
awaited : (c : After-past_all) → Awaits c.args.change (texts_of (take c.args.first c.args.pieces.now.items)) c.from_part.result
awaited c =
    let asked : IsChange c.args.pieces.now.items c.in-Some.change = rw c.in-Some.is at c.requires.asked in
    rw c.in-Some.is (awaits-from c.args.pieces.now.items c.in-Some.change c.from_part.result c.args.first asked.same c.from_part.ensures)

pub from_part-requires-clause-few : goal.from_part-requires-clause-few
from_part-requires-clause-few c =
    let asked : IsChange c.args.pieces.now.items c.in-Some.change = rw c.in-Some.is at c.requires.asked in
    omega (arith, c.requires.few, ap length asked.same)

pub from_part-requires-clause-order : goal.from_part-requires-clause-order
from_part-requires-clause-order c =
    let asked : IsChange c.args.pieces.now.items c.in-Some.change = rw c.in-Some.is at c.requires.asked in
    asked.order

pub from_part-requires-clause-within : goal.from_part-requires-clause-within
from_part-requires-clause-within c =
    let asked : IsChange c.args.pieces.now.items c.in-Some.change = rw c.in-Some.is at c.requires.asked in
    rw asked.same asked.within

pub returns-clause-awaits : goal.returns-clause-awaits
returns-clause-awaits c =
    let ps = c.args.pieces.now.items in
    let front = take c.args.first ps in
    rw (texts-append front c.args.made.now) (ok-then c.past_all.result c.past_all.ensures.on
    (λ ahead on. awaits-on c.args.change c.from_part.result ahead (texts_of front) (texts_of c.args.made.now) (awaited c) on))

pub returns-clause-stops : goal.returns-clause-stops
returns-clause-stops c =
    let ps = c.args.pieces.now.items in
    let front = take c.args.first ps in
    let made = texts_of c.args.made.now in
    rw (texts-append front c.args.made.now) (stops-when (Strays c.from_part.result made) _ c.past_all.result
    (unlike-on c.args.change c.from_part.result (texts_of front) made (awaited c)) c.past_all.ensures.stops)
