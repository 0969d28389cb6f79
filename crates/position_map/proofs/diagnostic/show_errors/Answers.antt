use Rattle.std.proofs.Common.{refl, arith, ◌+◌, ◌*◌}
use Rattle.position_map.proofs.{Words.chars-nil, Words.text_of, Listing.no_error, Listing.shown-more, Listing.visits-more, Reaching.reached-first}
use Rattle.position_map.proofs.diagnostic.show_errors.Goals as goal

pub errors-init : goal.errors-init
errors-init c = record {
  at = reached-first c.args.unit _ _ refl refl refl refl chars-nil;
  page = c.in_ok-page.ensures.items;
  most = λ d few. omega arith;
  kept = omega arith;
}

pub errors-preserved : goal.errors-preserved
errors-preserved c =
    let i = c.errors.error-index in
    record {
      at = c.show_next.ensures.at;
      page = shown-more (text_of c.args.parts.now.doc) c.args.unit c.args.errors.now c.errors.page.items c.push.new.self.items i no_error
          c.show_next.result.0 c.errors.invariant.page c.in_ok-push.ensures.items c.errors-test.true c.show_next.ensures.diagnostic;
      most = λ d few. visits-more i (i + 1) (3 * (d + 2)) c.args.visits.now c.errors.visits c.show_next.new.visits
          (c.errors.invariant.most d few) (c.show_next.ensures.most d few) (omega arith);
      kept = omega (arith, c.errors.invariant.kept, c.show_next.ensures.kept);
    }
