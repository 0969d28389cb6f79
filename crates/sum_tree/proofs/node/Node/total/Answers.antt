use Rattle.std.proofs.Common.{ap, sym, ◌∙◌, refl}
use Rattle.sum_tree.{specs.Sums.total, specs.Level.row_of, proofs.Totals.join_fits, proofs.Totals.sum_joined, proofs.Totals.summable_back}
use Rattle.sum_tree.proofs.node.Node.total.Goals as goal

pub join-requires : goal.join-requires
join-requires g c =
    join_fits g.met.S.Summary.laws g.T.Summed.sum_of _ _ _ _ _ (ap (λ n. (row_of n).items) c.in-Two.is) c.total.ensures c.total-in-Two.ensures c.requires

pub join-requires-in-Three : goal.join-requires-in-Three
join-requires-in-Three g c =
    let behind = summable_back g.met.S.Summary.laws g.T.Summed.sum_of g.met.S.Summary.fits_right _ _ _ (ap (λ n. (row_of n).items) c.in-Three.is) c.requires in
    join_fits g.met.S.Summary.laws g.T.Summed.sum_of _ _ _ _ _ refl c.total-in-Three-2.ensures c.total-in-Three-3.ensures behind

pub join-requires-in-Three-2 : goal.join-requires-in-Three-2
join-requires-in-Three-2 g c =
    let behind = c.join-in-Three.ensures ∙ sum_joined g.met.S.Summary.laws g.T.Summed.sum_of _ _ _ _ c.total-in-Three-2.ensures c.total-in-Three-3.ensures in
    join_fits g.met.S.Summary.laws g.T.Summed.sum_of _ _ _ _ _ (ap (λ n. (row_of n).items) c.in-Three.is) c.total-in-Three.ensures behind c.requires

pub returns-in-Two : goal.returns-in-Two
returns-in-Two g c =
    c.join.ensures ∙ sum_joined g.met.S.Summary.laws g.T.Summed.sum_of _ _ _ _ c.total.ensures c.total-in-Two.ensures
    ∙ sym (ap (λ n. total g.S.Summary.empty g.S.Summary.op g.T.Summed.sum_of (row_of n).items) c.in-Two.is)

pub returns-in-Three : goal.returns-in-Three
returns-in-Three g c =
    let behind = c.join-in-Three.ensures ∙ sum_joined g.met.S.Summary.laws g.T.Summed.sum_of _ _ _ _ c.total-in-Three-2.ensures c.total-in-Three-3.ensures in
    c.join-in-Three-2.ensures ∙ sum_joined g.met.S.Summary.laws g.T.Summed.sum_of _ _ _ _ c.total-in-Three.ensures behind
    ∙ sym (ap (λ n. total g.S.Summary.empty g.S.Summary.op g.T.Summed.sum_of (row_of n).items) c.in-Three.is)
