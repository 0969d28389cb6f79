use Rattle.position_map.proofs.Words.{◌+◌, ◌-◌, arith, all_errors, errors_in_sum}
use Rattle.position_map.proofs.{ErrorPieces.placed-room, ErrorPlaces.AreListed, ErrorPlaces.listed-more, ErrorPlaces.next-placed}
use Rattle.position_map.proofs.diagnostic.push_piece.Goals as goal

pub push_errors-requires : goal.push_errors-requires
push_errors-requires c =
    omega (arith, placed-room errors_in_sum c.args.parts.now _ _ _ c.find_error.ensures.place c.find_error.ensures.whole)

listing : (c : goal.In_ok-push_errors)
    → AreListed (all_errors c.args.parts.now.doc) c.args.errors.now.items c.push_errors.new.errors.items c.args.from c.args.count
listing c =
    let n = c.args.from + c.len-listed.result in
    let next = next-placed c.law_chained.ensures c.args.parts.now n c.last_end-begin.result _ _ c.find_error.ensures.place c.find_error.ensures.whole
    (omega (arith, c.requires.some, c.requires.within, c.len-listed.ensures)) c.last_end-begin.ensures.end in
    listed-more (all_errors c.args.parts.now.doc) c.args.errors.now.items _ c.push_errors.new.errors.items c.args.from n
    (c.args.count - c.len-listed.result) c.args.count c.requires.listed c.requires.some
    (omega (arith, c.len-listed.ensures)) (omega (arith, c.len-listed.ensures)) next c.in_ok-push_errors.ensures

pub returns-clause-listed : goal.returns-clause-listed
returns-clause-listed c = (listing c).listed

pub returns-clause-more : goal.returns-clause-more
returns-clause-more c = (listing c).more
