use Rattle.piece_rope.proofs.Prelude.{ap, sym, subst, ◌+◌, ℕ, arith, ◌≡◌, Sum, bytes_of, Document, document, earlier_of, joined, sums_of}
use Rattle.piece_rope.proofs.{Keeping.HasLengths, Keeping.join-kept, Keeping.kept-lengths, doc.Doc.lengths.Goals.After-self}
use Rattle.piece_rope.proofs.doc.Doc.lengths.Goals as goal

lengths : (c : After-self) (s : Sum) → s ≡ joined (sums_of c.self.inside.pieces.items) c.self.inside.tail.sum → HasLengths c.args.self.now s
lengths c s sum_is =
    let inside = c.self.inside in
    let earlier = earlier_of inside.pieces.items inside.log in
    subst (λ (d : Document). HasLengths d s) c.self.view_is
    (subst (λ (t : Sum). HasLengths (record (document inside.indexes.now inside.setting (bytes_of inside.pieces.items)) { earlier = earlier }) t) (sym sum_is)
    (kept-lengths earlier c.self.invariant.kept))

pub whole_sum-sum-requires-clause-few : goal.whole_sum-sum-requires-clause-few
whole_sum-sum-requires-clause-few c = join-kept c.self.invariant.kept

pub overflow_add-result : goal.overflow_add-result
overflow_add-result c = omega (arith, (lengths (goal.at.overflow_add-result c).After-self c.whole_sum-sum.result c.whole_sum-sum.ensures).few)

pub returns : goal.returns
returns c =
    let n = lengths (goal.at.returns c).After-self c.whole_sum-sum.result c.whole_sum-sum.ensures in
    record { bytes = n.bytes; scalars = n.scalars; utf16 = n.utf16; utf8 = n.utf8; errors = n.errors; lines = ap (λ (m : ℕ). m + 1) n.marks }
