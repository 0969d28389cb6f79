use Rattle.piece_rope.proofs.Prelude.{◌≡◌, refl, ap, ◌∙◌, ℕ, suc, ◌+◌, ◌-◌, List, [], ◌++◌, take, drop, min, length, arith, rules, add-one}
use Rattle.piece_rope.proofs.Prelude.{Place, Outcome, Sum, here_of, sums_of, errors_at, last_from}
use Rattle.piece_rope.proofs.Erring.{bytes-back, bytes-more, errors-behind, errors-enough, errors-next, errors-within, errors_rest, last-back}
use Rattle.piece_rope.proofs.Reading.{read-step, read-enough}
use Rattle.piece_rope.proofs.errors.errors_between.Goals as goal

pub pieces-init : goal.pieces-init
pieces-init c =
    let ps = c.args.pieces.now.items in
    let tail = c.args.tail.now in
    let k = c.seek-first.result.0 in
    let s = c.seek-first.result.1 in
    let found = c.seek-first.ensures.place in
    let base : s.bytes ≡ (sums_of (take k ps)).bytes = cc (found.sum) in
    let none : c.in_ok-places.places.items ≡ [] = search rules in
    record {
      places = ap (λ (xs : List Place). xs ++ take (c.args.to - c.args.from) (drop (c.args.from - s.errors) (errors_rest c.args.bom ps tail k))) none
          ∙ ap (λ (xs : List Place). take (c.args.to - c.args.from) xs) (errors-behind _ c.args.bom found tail);
      enough = errors-enough _ c.args.bom found tail c.args.to c.requires.order c.requires.within;
      within = λ p at. rw base at (errors-within _ c.args.bom found p tail at);
      base = base;
      begin = c.end_before-begin.ensures;
      place = found.within;
      room = omega (arith, c.in_ok-places.ensures.len, c.in_ok-places.ensures.exact);
    }

pub pieces-preserved : goal.pieces-preserved
pieces-preserved c =
    let ps = c.args.pieces.now.items in
    let tail = c.args.tail.now in
    let bom = c.args.bom in
    let k = c.pieces.place in
    let p = c.get.result.now in
    let here = errors_at (sums_of (take k ps)).bytes (last_from 0 bom (take k ps)) (here_of p).items in
    let rest = drop c.pieces.skip here in
    let more = errors_rest bom ps tail (k + 1) in
    let behind = errors-next bom k ps p tail c.get.ensures in
    let begun : errors_at c.pieces.base c.pieces.begin c.here-here.result.now.items ≡ here =
    cc (c.here-here.ensures, c.pieces.invariant.base, c.pieces.invariant.begin) in
    let count = c.push_errors-taken.result in
    let count_is : count ≡ min c.pieces.left (length rest) = cc (c.push_errors-taken.ensures.count, begun) in
    let added : c.push_errors-taken.new.places.items ≡ c.pieces.places.items ++ take count rest = cc (c.push_errors-taken.ensures.places, begun) in
    let bytes_is = ap (λ (s : Sum). s.bytes) (c.sum-base.ensures ∙ ap (λ (o : Outcome). o.sum) c.here-here.ensures) in
    let back = bytes-back k ps p c.get.ensures in
    let last = last-back bom k ps p c.get.ensures in
    record {
      places =
          read-step here more c.pieces.skip c.pieces.left c.pieces.places.items behind (c.pieces.invariant.within p c.get.ensures) refl count_is added
          ∙ c.pieces.invariant.places;
      enough = read-enough here more c.pieces.skip c.pieces.left behind refl count_is c.pieces.invariant.enough;
      within = λ q at. omega arith;
      base = omega (arith, c.pieces.invariant.base, back, ap (λ (n : ℕ). (sums_of (take n ps)).bytes) (add-one k), bytes_is);
      begin = cc (c.end_behind-begin.ensures, c.here-here.ensures, c.pieces.invariant.base, c.pieces.invariant.begin, add-one k, last);
      place = omega (arith, c.if-place-count.true);
      room = omega (arith, c.push_errors-taken.ensures.len, c.push_errors-taken.ensures.capacity, count_is, c.pieces.invariant.room);
    }

pub overflow_add-base : goal.overflow_add-base
overflow_add-base c =
    let ps = c.args.pieces.now.items in
    let k = c.pieces.place in
    let here = ap (λ (s : Sum). s.bytes) (c.sum-base.ensures ∙ ap (λ (o : Outcome). o.sum) c.here-here.ensures) in
    let all = ap (λ (s : Sum). s.bytes) c.total-bytes.ensures in
    omega (arith, c.pieces.invariant.base, bytes-back k ps c.get.result.now c.get.ensures, bytes-more (suc k) ps, here, all)
