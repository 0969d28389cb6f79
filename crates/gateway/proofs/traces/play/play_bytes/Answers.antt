use Rattle.gateway.proofs.{Prelude.Failed, Played.bytes-play, Played.bytes-broken}
use Rattle.lemmas.proofs.Lists.{rest-is}
use Rattle.gateway.proofs.traces.play.play_bytes.Goals as goal

pub slice_bounds-play_rest-count : goal.slice_bounds-play_rest-count
slice_bounds-play_rest-count g c = c.law_events.ensures.within _ _ _ _ _ _ c.in-Ok.ensures.step

pub slice_bounds-play_rest-start : goal.slice_bounds-play_rest-start
slice_bounds-play_rest-start g c = c.law_events.ensures.within _ _ _ _ _ _ c.in-Ok.ensures.step

pub returns-in-Ok-print_reply-clause-plays : goal.returns-in-Ok-print_reply-clause-plays
returns-in-Ok-print_reply-clause-plays g c =
    let rest = rw (rest-is c.in-Ok.out.taken c.args.bytes.now) at c.play_rest.ensures.plays in
    bytes-play c.law_lines.ensures _ _ c.args.c c.in-Ok.out.taken c.args.bytes.now c.in-Ok.out.reply c.in-Ok.ensures.fault
    c.in-Ok.ensures.step (Unit {0}) Failed c.play_rest.result _ _ _ _
    c.in-Ok-print_reply.ensures.prints rest

pub returns-in-Err-print_reply-clause-plays : goal.returns-in-Err-print_reply-clause-plays
returns-in-Err-print_reply-clause-plays g c =
    bytes-broken c.law_lines.ensures _ _ c.args.c c.in-Ok.out.taken c.args.bytes.now c.in-Ok.out.reply c.in-Ok.ensures.fault
    c.in-Ok.ensures.step (Unit {0}) Failed c.in-Err-print_reply.field-0 _ _
    c.in-Err-print_reply.ensures.prints
