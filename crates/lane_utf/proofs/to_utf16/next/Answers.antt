use Rattle.lane_utf.proofs.Decoding.{one_at, two_at, three_at, four_at, there}
use Rattle.lane_utf.proofs.to_utf16.next.Goals as goal

pub returns-then-first-lt128 : goal.returns-then-first-lt128
returns-then-first-lt128 c = one_at c.args.bytes.now c.args.at c.requires.text c.requires.within _ c.from-first.ensures c.if-first-lt128.true

pub bounds-bytes-at-2 : goal.bounds-bytes-at-2
bounds-bytes-at-2 c = (there c.args.bytes.now c.args.at c.requires.text c.requires.within _ c.from-first.ensures).0 c.if-first-lt128.false

pub returns-then-first-lt224 : goal.returns-then-first-lt224
returns-then-first-lt224 c =
    two_at c.args.bytes.now c.args.at c.requires.text c.requires.within _ _ c.from-first.ensures c.from-second.ensures
    c.if-first-lt128.false c.if-first-lt224.true

pub bounds-bytes-at-3 : goal.bounds-bytes-at-3
bounds-bytes-at-3 c = (there c.args.bytes.now c.args.at c.requires.text c.requires.within _ c.from-first.ensures).1 c.if-first-lt224.false

pub returns-then-first-lt240 : goal.returns-then-first-lt240
returns-then-first-lt240 c =
    three_at c.args.bytes.now c.args.at c.requires.text c.requires.within _ _ _ c.from-first.ensures c.from-second.ensures c.from-third.ensures
    c.if-first-lt224.false c.if-first-lt240.true

pub bounds-bytes-at-4 : goal.bounds-bytes-at-4
bounds-bytes-at-4 c = (there c.args.bytes.now c.args.at c.requires.text c.requires.within _ c.from-first.ensures).2 c.if-first-lt240.false

pub returns : goal.returns
returns c =
    four_at c.args.bytes.now c.args.at c.requires.text c.requires.within _ _ _ _ c.from-first.ensures c.from-second.ensures c.from-third.ensures
    c.from-fourth.ensures c.if-first-lt240.false
