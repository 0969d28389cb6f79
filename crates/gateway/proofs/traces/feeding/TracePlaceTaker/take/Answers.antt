use Rattle.std.proofs.Common.{◌+◌, ◌++◌, refl, sym, add-zero, ◌∙◌, ap}
use Rattle.gateway.proofs.{Prelude.before_end, Feeding.more-feeds, Feeding.more-stops, Feeding.end-stops, Feeding.end-feeds, Feeding.same_comment}
use Rattle.gateway.proofs.traces.feeding.TracePlaceTaker.take.Goals as goal

pub returns-in-Ok-clause-takes : goal.returns-in-Ok-clause-takes
returns-in-Ok-clause-takes g c =
    let more = rw c.in_default.is at c.take-taken.ensures.line in record {
      feeds = more-feeds c.law_lines.ensures c.args.bytes.now _ _ _ c.args.self.now _ more.0 c.take-taken.ensures.count c.look.ensures.number
          (λ line m. (more.1 line (c.look.ensures.begun line m), c.look.ensures.comment line m));
      fine = refl;
    }

pub returns-in-Err-clause-takes : goal.returns-in-Err-clause-takes
returns-in-Err-clause-takes g c =
    let more = rw c.in_default.is at c.take-taken.ensures.line in record {
      stops = rw c.look.ensures.number (more-stops c.law_lines.ensures c.in-Err.fault c.args.bytes.now _ _ c.args.self.now _ _ more.0
          (λ line m. (more.1 line (c.look.ensures.begun line m), c.look.ensures.comment line m)) c.in-Err.ensures.stuck);
      failed = sym (add-zero _) ∙ ap (λ n. (g.W.Outlet.took c.args.writer.now).failures + n) (sym c.in-Err.ensures.silent);
    }

pub returns-in-Err-play_line-clause-takes : goal.returns-in-Err-play_line-clause-takes
returns-in-Err-play_line-clause-takes g c =
    let done = rw c.in-Some.is at c.take-taken.ensures.line in record {
      stops = rw c.look.ensures.number (end-stops c.law_lines.ensures c.args.bytes.now done.0 _ _ _ _ c.args.self.now c.in-Err-play_line.fault
          (λ line m. c.in-Err-play_line.ensures.plays (line ++ before_end c.args.bytes.now)
          (done.2 line (c.look.ensures.begun line m), c.look.ensures.comment line m ∙ sym (same_comment line c.args.bytes.now))));
      failed = c.in-Err-play_line.ensures.failures;
    }

pub returns-clause-takes : goal.returns-clause-takes
returns-clause-takes g c =
    let done = rw c.in-Some.is at c.take-taken.ensures.line in record {
      feeds = end-feeds c.law_lines.ensures c.args.bytes.now done.0 _ _ _ _ _ c.args.self.now c.next.new.self c.take-taken.ensures.count
          (c.next.ensures.begun ∙ done.1) c.next.ensures.comment (c.next.ensures.number ∙ ap (λ n. n + 1) c.look.ensures.number)
          (λ line m. c.in-Ok-play_line.ensures.plays (line ++ before_end c.args.bytes.now)
          (done.2 line (c.look.ensures.begun line m), c.look.ensures.comment line m ∙ sym (same_comment line c.args.bytes.now)));
      fine = c.in-Ok-play_line.ensures.failures ∙ add-zero _;
    }
