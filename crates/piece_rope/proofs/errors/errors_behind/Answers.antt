use Rattle.piece_rope.proofs.Prelude.{◌≡◌, sym, ap, subst, ◌∙◌, ◌-◌, List, [], drop, take, length, arith, Place, all_errors, errors_at, here_of, last_from}
use Rattle.piece_rope.proofs.Prelude.{AreFirstOf, append-nil}
use Rattle.piece_rope.proofs.{Erring.next-in-piece, Erring.next-in-tail, errors.errors_behind.Goals.After-at, errors.errors_behind.Goals.After-at-2}
use Rattle.piece_rope.proofs.errors.errors_behind.Goals as goal

-- the errors of the piece, and those of the end after all pieces
in_piece : (c : After-at) → c.at.result ≡ drop (c.args.n - c.seek-place.result.1.errors)
    (errors_at c.seek-place.result.1.bytes (last_from 0 c.args.bom (take c.seek-place.result.0 c.args.pieces.now.items)) (here_of c.get.result.now).items)
in_piece c = cc (c.at.ensures, c.here.ensures, c.end_before-from.ensures)

in_tail : (c : After-at-2) → drop c.args.n (all_errors c.args.bom c.args.pieces.now.items c.args.tail.now) ≡ c.at-2.result
in_tail c =
    let same = next-in-tail _ c.args.bom c.seek-place.ensures.place c.args.tail.now (omega (arith, c.if-place-len.false, c.len.ensures)) in
    cc (same, c.at-2.ensures, c.end_before-from.ensures)

pub returns-then-place-len-clause-first : goal.returns-then-place-len-clause-first
returns-then-place-len-clause-first c =
    let next = next-in-piece _ c.args.bom c.seek-place.ensures.place c.get.result.now c.args.tail.now c.get.ensures in
    subst (λ (xs : List Place). AreFirstOf xs (drop c.args.n (all_errors c.args.bom c.args.pieces.now.items c.args.tail.now))) (sym (in_piece c)) next.0

pub returns-then-place-len-clause-some : goal.returns-then-place-len-clause-some
returns-then-place-len-clause-some c none =
    let next = next-in-piece _ c.args.bom c.seek-place.ensures.place c.get.result.now c.args.tail.now c.get.ensures in
    absurd (omega (arith, next.1, ap length (sym (in_piece c) ∙ none)))

pub returns-clause-first : goal.returns-clause-first
returns-clause-first c = record { others = []; parts = in_tail c ∙ sym (append-nil c.at-2.result) }

pub returns-clause-some : goal.returns-clause-some
returns-clause-some c none = in_tail c ∙ none
