use Rattle.std.proofs.Common.{rules, ◌++◌, ap, refl, arith}
use Rattle.sum_tree.specs.{Row.Row, Opened.IsTwo, Opened.IsThree}
use Rattle.sum_tree.proofs.Refilling.{IsCut, cut_behind, can_back, can_first, enough_front, joined, refilled_as, refilled_fits}
use Rattle.sum_tree.proofs.node.Child.+refill.Goals as goal

pub refill-b-requires : goal.refill-b-requires
refill-b-requires g t c κs within =
    let o : IsTwo c.args.self c.in-Two.a c.in-Two.b = c.in-Two.ensures.opened in
    let can = can_back g.met.S.Summary.laws c.in-Two.b.items o.items c.requires.can
    (cut_behind c.saturating_sub.result c.saturating_sub-in-Two.result c.requires.order (omega arith) (omega arith))
    g.met.S.Summary.fits_right c.requires.enough in
    let sound = o.right in
    search rules

pub refill-a-requires : goal.refill-a-requires
refill-a-requires g t c κs within =
    let o : IsTwo c.args.self c.in-Two.a c.in-Two.b = c.in-Two.ensures.opened in
    let last = c.refill-b.ensures.refilled in
    let cut : IsCut c.in-Two.a.items c.args.from c.args.to c.min.result c.min-in-Two.result c.saturating_sub.result c.saturating_sub-in-Two.result =
    record { order = c.requires.order; start = omega arith; end = omega arith; start_behind = omega arith; end_behind = omega arith } in
    let can = can_first g.met.S.Summary.laws c.in-Two.b.items o.items c.requires.can cut g.met.S.Summary.fits_left last in
    let enough = enough_front cut last c.requires.enough in
    let sound = o.left in
    search rules

pub close-requires-in-Two-clause-summable : goal.close-requires-in-Two-clause-summable
close-requires-in-Two-clause-summable g t c =
    refilled_fits c.requires.can (joined c.args.from c.args.to c.in-Two.ensures.opened.items c.refill-b.ensures.refilled c.refill-a.ensures.refilled
    (record { order = c.requires.order; start = omega arith; end = omega arith; start_behind = omega arith; end_behind = omega arith }))

pub returns-in-Two-clause-refilled : goal.returns-in-Two-clause-refilled
returns-in-Two-clause-refilled g t c =
    refilled_as (ap (λ (r : Row g.row.T.Denot). r.items) c.close-in-Two.ensures.row)
    (joined c.args.from c.args.to c.in-Two.ensures.opened.items c.refill-b.ensures.refilled c.refill-a.ensures.refilled
    (record { order = c.requires.order; start = omega arith; end = omega arith; start_behind = omega arith; end_behind = omega arith }))

pub refill-c-requires : goal.refill-c-requires
refill-c-requires g t c κs within =
    let o : IsThree c.args.self c.in-Three.a c.in-Three.b c.in-Three.c = c.in-Three.ensures.opened in
    let behind = can_back g.met.S.Summary.laws (c.in-Three.b.items ++ c.in-Three.c.items) o.items c.requires.can
    (cut_behind c.saturating_sub-i.result c.saturating_sub-j.result c.requires.order (omega arith) (omega arith))
    g.met.S.Summary.fits_right c.requires.enough in
    let can = can_back g.met.S.Summary.laws c.in-Three.c.items refl behind
    (cut_behind {a = c.in-Three.b.items} c.saturating_sub-in-Three.result c.saturating_sub-in-Three-2.result (omega arith) (omega arith) (omega arith))
    g.met.S.Summary.fits_right (omega arith) in
    let sound = o.right in
    search rules

pub refill-b-requires-in-Three : goal.refill-b-requires-in-Three
refill-b-requires-in-Three g t c κs within =
    let o : IsThree c.args.self c.in-Three.a c.in-Three.b c.in-Three.c = c.in-Three.ensures.opened in
    let last = c.refill-c.ensures.refilled in
    let behind = can_back g.met.S.Summary.laws (c.in-Three.b.items ++ c.in-Three.c.items) o.items c.requires.can
    (cut_behind c.saturating_sub-i.result c.saturating_sub-j.result c.requires.order (omega arith) (omega arith))
    g.met.S.Summary.fits_right c.requires.enough in
    let cut : IsCut c.in-Three.b.items c.saturating_sub-i.result c.saturating_sub-j.result c.min-in-Three.result c.min-in-Three-2.result
    c.saturating_sub-in-Three.result c.saturating_sub-in-Three-2.result =
    record { order = omega arith; start = omega arith; end = omega arith; start_behind = omega arith; end_behind = omega arith } in
    let can = can_first g.met.S.Summary.laws c.in-Three.c.items refl behind cut g.met.S.Summary.fits_left last in
    let enough = enough_front cut last (omega arith) in
    let sound = o.middle in
    search rules

pub refill-a-requires-in-Three : goal.refill-a-requires-in-Three
refill-a-requires-in-Three g t c κs within =
    let o : IsThree c.args.self c.in-Three.a c.in-Three.b c.in-Three.c = c.in-Three.ensures.opened in
    let behind = joined c.saturating_sub-i.result c.saturating_sub-j.result refl c.refill-c.ensures.refilled c.refill-b-in-Three.ensures.refilled
    (record { order = omega arith; start = omega arith; end = omega arith; start_behind = omega arith; end_behind = omega arith }) in
    let cut : IsCut c.in-Three.a.items c.args.from c.args.to c.min-in-Three-3.result c.min-in-Three-4.result
    c.saturating_sub-i.result c.saturating_sub-j.result =
    record { order = c.requires.order; start = omega arith; end = omega arith; start_behind = omega arith; end_behind = omega arith } in
    let can = can_first g.met.S.Summary.laws (c.in-Three.b.items ++ c.in-Three.c.items) o.items c.requires.can cut g.met.S.Summary.fits_left behind in
    let enough = enough_front cut behind c.requires.enough in
    let sound = o.left in
    search rules

pub close-requires-in-Three-clause-summable : goal.close-requires-in-Three-clause-summable
close-requires-in-Three-clause-summable g t c =
    let behind = joined c.saturating_sub-i.result c.saturating_sub-j.result refl c.refill-c.ensures.refilled c.refill-b-in-Three.ensures.refilled
    (record { order = omega arith; start = omega arith; end = omega arith; start_behind = omega arith; end_behind = omega arith }) in
    refilled_fits c.requires.can (joined c.args.from c.args.to c.in-Three.ensures.opened.items behind c.refill-a-in-Three.ensures.refilled
    (record { order = c.requires.order; start = omega arith; end = omega arith; start_behind = omega arith; end_behind = omega arith }))

pub returns-clause-refilled : goal.returns-clause-refilled
returns-clause-refilled g t c =
    let behind = joined c.saturating_sub-i.result c.saturating_sub-j.result refl c.refill-c.ensures.refilled c.refill-b-in-Three.ensures.refilled
    (record { order = omega arith; start = omega arith; end = omega arith; start_behind = omega arith; end_behind = omega arith }) in
    refilled_as (ap (λ (r : Row g.row.T.Denot). r.items) c.close-in-Three.ensures.row)
    (joined c.args.from c.args.to c.in-Three.ensures.opened.items behind c.refill-a-in-Three.ensures.refilled
    (record { order = c.requires.order; start = omega arith; end = omega arith; start_behind = omega arith; end_behind = omega arith }))
