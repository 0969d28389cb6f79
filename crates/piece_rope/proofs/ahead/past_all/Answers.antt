use Rattle.piece_rope.proofs.Prelude.{◌≡◌, ◌++◌, Some, arith, drop, here_of, length, refl, slice_get, slice_get_read, suc, take, texts_of}
use Rattle.piece_rope.proofs.Stopping.{goes-on, stops-if, strays-more, strays-on, texts-around, texts-more}
use Rattle.piece_rope.{proofs.ahead.past_all.Goals.After-past, specs.Ahead.Strays}
use Rattle.std.proofs.lemmas.Result.{err_from_is_err_and}
use Rattle.piece_rope.proofs.ahead.past_all.Goals as goal

-- the piece that is looked at
here : (c : After-past) → slice_get c.args.pieces.now c.pieces.place ≡ Some c.index-pieces-place.result
here c = slice_get_read c.args.pieces.now (length c.args.pieces.now) c.pieces.place c.index-pieces-place.result refl c.pieces-test.true c.index-pieces-place.is

pub returns-in_err-left-clause-stops : goal.returns-in_err-left-clause-stops
returns-in_err-left-clause-stops c =
    let x = (goal.at.returns-in_err-left-clause-stops c).After-past in
    let ps = c.args.pieces.now in
    let n = c.pieces.place in
    let p = c.index-pieces-place.result in
    let before = texts_of (take n ps) in
    let behind = texts_of (drop (suc n) ps) in
    let e = err_from_is_err_and c.from_residual.result c.from_residual.ensures.1 in
    rw (e.1, e.2) (stops-if (Strays c.pieces.left (here_of p).text) (Strays c.args.ahead (texts_of ps)) _
    (λ strays. rw (texts-around ps n p (here x))
    (strays-on c.args.ahead c.pieces.left before ((here_of p).text ++ behind) c.pieces.invariant.on
    (strays-more c.pieces.left (here_of p).text behind strays))) c.in_err-left.ensures.stops)

pub pieces-preserved : goal.pieces-preserved
pieces-preserved c =
    let x = (goal.at.pieces-preserved c).After-past in
    let ps = c.args.pieces.now in
    let n = c.pieces.place in
    let p = c.index-pieces-place.result in
    let before = texts_of (take n ps) in
    record {
      on = rw (texts-more ps n p (here x))
          (goes-on c.args.ahead c.pieces.left c.in_ok-left.left before (here_of p).text c.pieces.invariant.on c.in_ok-left.ensures.on);
      within = omega (arith, c.pieces-test.true);
    }
