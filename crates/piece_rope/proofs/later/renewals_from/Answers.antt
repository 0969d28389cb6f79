use Rattle.piece_rope.proofs.Prelude.{◌≡◌, refl, rules, sym, ◌∙◌, length, take, drop, Some, slice_get, arith, [], ◌∷◌, ◌++◌, err_from_is_err_and, Begins}
use Rattle.piece_rope.proofs.Prelude.{Strays, same_state, state_after, Passed, bytes_of, here_of, renewed, texts_of, at-behind, length-snoc}
use Rattle.piece_rope.proofs.Stopping.{begins-next, goes-nowhere, goes-on, renewed-texts, stops-if, strays-on}
use Rattle.piece_rope.proofs.Chaining.{laws_of, next-chain, state-next, passed-on, bytes-next, rest-chains, same-end, entry-at, own-at, renewed-on}
use Rattle.piece_rope.{specs.Resync.IsRenewal, proofs.later.renewals_from.Goals.After-get-piece, proofs.later.renewals_from.Goals.After-renewal}
use Rattle.piece_rope.proofs.later.renewals_from.Goals as goal

-- the piece that is gone over
here : (c : After-get-piece) → slice_get (drop c.args.first c.args.pieces.now.items) (length c.pieces.renewals.items) ≡ Some c.get-piece.result.now
here c = at-behind c.args.pieces.now.items c.args.first (length c.pieces.renewals.items) c.pieces.index c.get-piece.result.now
    c.pieces.invariant.at c.get-piece.ensures

-- it was entered in the new state
met : (c : goal.In_default) → c.get-piece.result.now.entry ≡ state_after c.args.decoder.now c.args.entry
    (take (length c.pieces.renewals.items) (drop c.args.first c.args.pieces.now.items))
met c =
    let same : c.get-piece.result.now.entry ≡ c.pieces.state = rw c.in_default.is at c.in_ok-renewed.ensures.none in
    same ∙ c.pieces.invariant.state

-- the meter rose by its bytes at most, and not at all if it was entered in the new state
passed : (c : After-renewal) → slice_get (drop c.args.first c.args.pieces.now.items) (length c.pieces.renewals.items) ≡ Some c.get-piece.result.now
    → Passed c.args.decoder.now c.args.entry (drop c.args.first c.args.pieces.now.items) c.args.meter.now c.renewal.new.meter
passed c at =
    passed-on (laws_of _ c.requires.lawful).laws (same_state c.get-piece.result.now.entry c.pieces.state) (length c.pieces.renewals.items) refl at
    c.pieces.invariant.state c.pieces.invariant.passed c.pieces.invariant.most c.renewal.ensures.meter c.renewal.ensures.meter_most

pub pieces-init : goal.pieces-init
pieces-init c = rw c.new-renewals.ensures.items (record {
  at = omega arith;
  on = goes-nowhere c.args.ahead;
  within = c.requires.within;
  kept = tt;
  chain = tt;
  state = sym ((laws_of _ c.requires.lawful).laws.none c.args.entry);
  passed = record { count = 0; within = omega arith; differs = λ j p e at. absurd (omega (arith, e)); most = omega arith };
  most = omega arith;
  least = omega arith;
})

pub returns-in_default-clause-chain : goal.returns-in_default-clause-chain
returns-in_default-clause-chain c =
    let x = goal.at.returns-in_default-clause-chain c in
    rest-chains (laws_of _ c.requires.lawful).laws c.args.entry c.requires.behind.from
    (drop c.args.first c.args.pieces.now.items) c.get-piece.result.now c.pieces.renewals.items
    (here x.After-get-piece) c.requires.behind.chain c.pieces.invariant.chain (met c)

pub returns-in_default-clause-exit : goal.returns-in_default-clause-exit
returns-in_default-clause-exit c =
    let x = goal.at.returns-in_default-clause-exit c in
    let ps = drop c.args.first c.args.pieces.now.items in
    let l = (laws_of _ c.requires.lawful).laws in
    let old = entry-at l c.requires.behind.from ps (length c.pieces.renewals.items) c.get-piece.result.now
    c.requires.behind.chain (here x.After-get-piece) in
    c.requires.behind.end_is ∙ same-end l c.args.entry c.requires.behind.from ps (length c.pieces.renewals.items) (sym old ∙ met c)

pub renewal-requires-clause-own : goal.renewal-requires-clause-own
renewal-requires-clause-own c =
    let x = goal.at.renewal-requires-clause-own c in
    own-at (laws_of _ c.requires.lawful).laws c.requires.behind.from
    (drop c.args.first c.args.pieces.now.items) (length c.pieces.renewals.items)
    c.get-piece.result.now c.requires.behind.chain (here x.After-get-piece)

pub returns-in_err-renewed-clause-meter : goal.returns-in_err-renewed-clause-meter
returns-in_err-renewed-clause-meter c = let x = goal.at.returns-in_err-renewed-clause-meter c in passed x.After-renewal (here x.After-get-piece)

pub returns-in_err-map_err-clause-meter : goal.returns-in_err-map_err-clause-meter
returns-in_err-map_err-clause-meter c = let x = goal.at.returns-in_err-map_err-clause-meter c in passed x.After-renewal (here x.After-get-piece)

pub returns-in_err-left-clause-meter : goal.returns-in_err-left-clause-meter
returns-in_err-left-clause-meter c = let x = goal.at.returns-in_err-left-clause-meter c in passed x.After-renewal (here x.After-get-piece)

-- the text of the pieces up to this one isn't what is wanted
pub returns-in_err-left-clause-stops : goal.returns-in_err-left-clause-stops
returns-in_err-left-clause-stops c =
    let x = goal.at.returns-in_err-left-clause-stops c in
    let d = c.args.decoder.now in
    let l = (laws_of _ c.requires.lawful).laws in
    let ps = drop c.args.first c.args.pieces.now.items in
    let rs = c.pieces.renewals.items in
    let p = c.get-piece.result.now in
    let r = c.in-Some.renewed in
    let more = rs ++ r ∷ [] in
    let at = here x.After-get-piece in
    let to : IsRenewal d p c.pieces.state r c.in-Some.exit = rw c.in-Some.is at c.in_ok-renewed.ensures.some in
    let chain = next-chain l c.args.entry c.pieces.state ps p rs more r refl at c.pieces.invariant.chain c.pieces.invariant.state
    to.entry to.own to.renewed.bytes in
    let texts = renewed-texts ps rs more p r refl at in
    let e = err_from_is_err_and c.from_residual-in_err-left.result c.from_residual-in_err-left.ensures.1 in
    rw (e.1, e.2) (stops-if (Strays c.pieces.left (here_of r).text) (Begins d c.args.entry (bytes_of ps) (Strays c.args.ahead)) _
    (λ strays. begins-next l c.args.entry ps rs more c.args.ahead chain
    (rw texts (strays-on c.args.ahead c.pieces.left (texts_of (renewed (take (length rs) ps) rs)) (here_of r).text c.pieces.invariant.on
    strays))) c.in_err-left.ensures.stops)

pub pieces-preserved : goal.pieces-preserved
pieces-preserved c =
    let x = goal.at.pieces-preserved c in
    let d = c.args.decoder.now in
    let l = (laws_of _ c.requires.lawful).laws in
    let ps = drop c.args.first c.args.pieces.now.items in
    let rs = c.pieces.renewals.items in
    let p = c.get-piece.result.now in
    let r = c.in-Some.renewed in
    let at = here x.After-get-piece in
    let to : IsRenewal d p c.pieces.state r c.in-Some.exit = rw c.in-Some.is at c.in_ok-renewed.ensures.some in
    let more : c.push.new.self.items ≡ rs ++ r ∷ [] = search rules in
    let long = length-snoc rs c.push.new.self.items r more in
    let texts = renewed-texts ps rs c.push.new.self.items p r more at in
    record {
      on = rw texts (goes-on c.args.ahead c.pieces.left c.in_ok-left.left (texts_of (renewed (take (length rs) ps) rs))
          (here_of r).text c.pieces.invariant.on c.in_ok-left.ensures.on);
      at = omega (arith, c.pieces.invariant.at, long);
      within = omega (arith, c.pieces-test.true);
      kept = rw more (renewed-on ps rs p r c.pieces.invariant.kept at to.renewed);
      chain = next-chain l c.args.entry c.pieces.state ps p rs c.push.new.self.items r more at c.pieces.invariant.chain
          c.pieces.invariant.state to.entry to.own to.renewed.bytes;
      state = rw long (state-next l c.args.entry c.pieces.state c.in-Some.exit ps (length rs) p at c.pieces.invariant.state to.exit_is);
      passed = passed x.After-renewal at;
      most = rw long (omega (arith, c.pieces.invariant.most, c.renewal.ensures.meter_most, bytes-next ps (length rs) p at));
      least = omega (arith, c.pieces.invariant.least, c.renewal.ensures.meter_least);
    }
