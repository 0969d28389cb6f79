use Rattle.std.proofs.Common.{rules, ◌-◌, arith}
use Rattle.sum_tree.proofs.Reaching.{reach_front, reach_back, reach_middle, reach_last, prefix_leaf, prefix_front, prefix_back, prefix_middle, prefix_last}
use Rattle.sum_tree.proofs.node.Child.+prefix.Goals as goal

pub prefix-requires : goal.prefix-requires
prefix-requires g t c κs within =
    let fit = reach_front g.met.S.Summary.laws c.args.self.now.items c.in-Two.a.now.items c.in-Two.b.now.items c.in-Two.ensures.parts.items
    c.requires.fit g.met.S.Summary.fits_left in
    search rules

pub behind-requires : goal.behind-requires
behind-requires g t c = reach_front g.met.S.Summary.laws _ _ _ c.in-Two.ensures.parts.items c.requires.fit g.met.S.Summary.fits_left

pub prefix-requires-else-i-count : goal.prefix-requires-else-i-count
prefix-requires-else-i-count g t c κs within =
    let fit = reach_back g.met.S.Summary.laws _ _ _ c.in-Two.ensures.parts.items c.requires.fit c.behind.ensures in
    search rules

pub prefix-requires-then-i-count-2 : goal.prefix-requires-then-i-count-2
prefix-requires-then-i-count-2 g t c κs within =
    let fit = reach_front g.met.S.Summary.laws c.args.self.now.items c.in-Three.a.now.items _ c.in-Three.ensures.parts.items
    c.requires.fit g.met.S.Summary.fits_left in
    search rules

pub behind-behind-requires : goal.behind-behind-requires
behind-behind-requires g t c = reach_front g.met.S.Summary.laws _ _ _ c.in-Three.ensures.parts.items c.requires.fit g.met.S.Summary.fits_left

pub prefix-requires-then-j-count : goal.prefix-requires-then-j-count
prefix-requires-then-j-count g t c κs within =
    let fit = reach_middle g.met.S.Summary.laws c.in-Three.ensures.parts c.requires.fit c.behind-behind.ensures g.met.S.Summary.fits_left in
    search rules

pub behind-requires-else-j-count : goal.behind-requires-else-j-count
behind-requires-else-j-count g t c =
    reach_middle g.met.S.Summary.laws c.in-Three.ensures.parts c.requires.fit c.behind-behind.ensures g.met.S.Summary.fits_left

pub prefix-requires-else-j-count : goal.prefix-requires-else-j-count
prefix-requires-else-j-count g t c κs within =
    let fit = reach_last g.met.S.Summary.laws c.in-Three.ensures.parts c.requires.fit c.behind-behind.ensures c.behind-else-j-count.ensures in
    search rules

pub returns-in-Leaf-clause-prefix : goal.returns-in-Leaf-clause-prefix
returns-in-Leaf-clause-prefix g t c =
    prefix_leaf g.met.S.Summary.laws c.args.before c.args.self.now.items c.args.i c.in-Leaf.ensures.parts.len c.requires.place

pub returns-then-i-count-clause-prefix : goal.returns-then-i-count-clause-prefix
returns-then-i-count-clause-prefix g t c = prefix_front g.met.S.Summary.laws _ _ _ c.in-Two.ensures.parts.items c.prefix.ensures.prefix

pub returns-else-i-count-clause-prefix : goal.returns-else-i-count-clause-prefix
returns-else-i-count-clause-prefix g t c =
    prefix_back g.met.S.Summary.laws _ _ _ c.args.i c.in-Two.ensures.parts.items c.prefix-else-i-count.ensures.prefix c.behind.ensures (omega arith)

pub returns-then-i-count-2-clause-prefix : goal.returns-then-i-count-2-clause-prefix
returns-then-i-count-2-clause-prefix g t c =
    prefix_front g.met.S.Summary.laws _ _ _ c.in-Three.ensures.parts.items c.prefix-then-i-count-2.ensures.prefix

pub returns-then-j-count-clause-prefix : goal.returns-then-j-count-clause-prefix
returns-then-j-count-clause-prefix g t c =
    prefix_middle g.met.S.Summary.laws c.in-Three.ensures.parts c.args.i c.prefix-then-j-count.ensures.prefix c.behind-behind.ensures (omega arith)

pub returns-else-j-count-clause-prefix : goal.returns-else-j-count-clause-prefix
returns-else-j-count-clause-prefix g t c =
    prefix_last g.met.S.Summary.laws c.in-Three.ensures.parts c.args.i (c.args.i - c.count-in-Three-3.result)
    c.prefix-else-j-count.ensures.prefix c.behind-else-j-count.ensures (omega arith) c.behind-behind.ensures (omega arith)
