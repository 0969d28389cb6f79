use Rattle.std.proofs.Common.{◌≡◌, refl, [], ap, ◌∙◌, ℕ, ◌+◌, ◌-◌, List, ◌++◌, take, drop, min, length, arith, string_bytes}
use Rattle.piece_rope.proofs.{Prelude.chars, Prelude.chars-nil, Prelude.here_of, Prelude.texts_of, Reading.read-step, Reading.read-enough}
use Rattle.piece_rope.proofs.Texts.{text-place, text-from, text-enough, text-within, texts-behind}
use Rattle.piece_rope.proofs.text.text_between.Goals as goal

pub pieces-init : goal.pieces-init
pieces-init c =
    let ps = c.args.pieces.now.items in
    let end = c.args.tail.now.text in
    let k = c.seek-first.result.0 in
    let s = c.seek-first.result.1 in
    let place = text-place c.seek-first.ensures.place in
    let empty : chars (string_bytes c.in_ok-text.text) ≡ [] = ap chars c.in_ok-text.ensures.bytes ∙ chars-nil in
    record {
      text = ap (λ (cs : List ℕ). cs ++ take (c.args.j - c.args.i) (drop (c.args.i - s.scalars) (texts_of (drop k ps) ++ end))) empty
          ∙ ap (λ (cs : List ℕ). take (c.args.j - c.args.i) cs) (text-from place end);
      enough = text-enough place end c.args.j c.requires.order c.requires.within;
      within = text-within place;
      place = place.within;
    }

pub pieces-preserved : goal.pieces-preserved
pieces-preserved c =
    let ps = c.args.pieces.now.items in
    let end = c.args.tail.now.text in
    let k = c.pieces.place in
    let p = c.get.result.now in
    let here = (here_of p).text in
    let rest = drop c.pieces.skip here in
    let count = c.in_ok-taken.taken in
    let count_is : count ≡ min c.pieces.left (length rest) = cc (c.in_ok-taken.ensures.count, c.here.ensures) in
    let added : chars (string_bytes c.push_part.new.text) ≡ chars (string_bytes c.pieces.text) ++ take count rest =
    cc (c.in_ok-taken.ensures.part, c.here.ensures) in
    let more = texts_of (drop (k + 1) ps) ++ end in
    let behind = texts-behind ps end k p c.get.ensures in
    record {
      text =
          read-step here more c.pieces.skip c.pieces.left (chars (string_bytes c.pieces.text)) behind (c.pieces.invariant.within p c.get.ensures) refl
          count_is added
          ∙ c.pieces.invariant.text;
      enough = read-enough here more c.pieces.skip c.pieces.left behind refl count_is c.pieces.invariant.enough;
      within = λ q at. omega arith;
      place = omega (arith, c.if-place-count.true);
    }
