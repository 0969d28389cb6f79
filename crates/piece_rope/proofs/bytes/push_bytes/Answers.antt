use Rattle.piece_rope.proofs.Prelude.{◌≡◌, rules, ap, ◌∙◌, ℕ, ◌+◌, ◌-◌, List, ◌++◌, take, drop, min, length, arith, slice_get_within, bytes_of}
use Rattle.piece_rope.proofs.Reading.{bytes-behind, bytes-from, bytes-enough, bytes-within, read-step, read-enough}
use Rattle.piece_rope.proofs.bytes.push_bytes.Goals as goal

pub pieces-init : goal.pieces-init
pieces-init c = record {
  bytes = ap (λ (bs : List ℕ). c.args.bytes.now.items ++ take (c.args.to - c.args.from) bs) (bytes-from c.seek-first.ensures);
  enough = bytes-enough c.seek-first.ensures c.args.to c.requires.order c.requires.within;
  within = bytes-within c.seek-first.ensures;
}

pub overflow_add-place : goal.overflow_add-place
overflow_add-place c = omega (arith, slice_get_within c.args.pieces.now.items c.pieces.place c.get.result.now c.get.ensures)

pub pieces-preserved : goal.pieces-preserved
pieces-preserved c =
    let ps = c.args.pieces.now.items in
    let k = c.pieces.place in
    let here = c.get.result.now.piece.bytes in
    let more = bytes_of (drop (k + 1) ps) in
    let rest = c.split_at.result.1.now in
    let rest_is : rest ≡ drop c.pieces.skip here = search rules in
    let count_is : c.min-count.result ≡ min c.pieces.left (length rest) = search rules in
    let added : c.extend_from_slice.new.self.items ≡ c.pieces.bytes.items ++ take c.min-count.result rest = search rules in
    let behind = bytes-behind ps k c.get.result.now c.get.ensures in
    record {
      bytes =
          read-step here more c.pieces.skip c.pieces.left c.pieces.bytes.items behind (c.pieces.invariant.within c.get.result.now c.get.ensures)
          rest_is count_is added
          ∙ c.pieces.invariant.bytes;
      enough = read-enough here more c.pieces.skip c.pieces.left behind rest_is count_is c.pieces.invariant.enough;
      within = λ q at. omega arith;
    }
