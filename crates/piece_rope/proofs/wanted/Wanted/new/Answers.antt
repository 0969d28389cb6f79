use Rattle.piece_rope.proofs.Prelude.{ℕ, List, sym, ap, ◌∙◌, chars, encode_utf8_all, encodes-chars}
use Rattle.piece_rope.{specs.declared.wanted.Wanted.Wanted, proofs.Wanting.wanted-text}
use Rattle.piece_rope.proofs.wanted.Wanted.new.Goals as goal

pub returns-clause-text : goal.returns-clause-text
returns-clause-text c =
    let w : Wanted = record {
      pieces = c.args.change.pieces;
      tail = c.args.change.tail;
      from = c.cut_at-from.result.place;
      front = c.cut_at-from.result.front;
      text = c.as_bytes.result;
      back = c.cut_at-to.result.back;
      to = c.cut_at-to.result.place;
      places = record { from_within = c.cut_at-from.ensures.place; to_within = c.cut_at-to.ensures.place; few = c.requires.few };
    } in
    wanted-text w c.args.change.i c.args.change.j (chars c.args.change.text.now) c.cut_at-from.ensures.front c.cut_at-to.ensures.back
    (ap (λ (bs : List ℕ). encode_utf8_all (chars bs)) (sym c.as_bytes.ensures.value) ∙ encodes-chars c.as_bytes.result.now c.as_bytes.ensures.utf8)
