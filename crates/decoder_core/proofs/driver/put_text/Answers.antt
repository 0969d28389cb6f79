use Rattle.std.proofs.Common.{sym, ◌∙◌, arith, append-nil}
use Rattle.decoder_core.proofs.Encoding.{goes, stops-at, past-run, past-run-char, chars_of_empty}
use Rattle.decoder_core.proofs.driver.put_text.Goals as goal

pub returns-in_default : goal.returns-in_default
returns-in_default g c =
    let ran = past-run (g.E.Encoder.table c.args.encoder.now) c.args.html c.code_points.index c.code_points.invariant.0 c.in_ok-behind_run.ensures in
    let whole = ran.2 ∙ c.code_points.invariant.2 in
    rw (append-nil c.put_run.new.out.bytes) at (sym (rw (chars_of_empty c.in_ok-behind_run.behind_run.now c.in_default.ensures) at whole))

pub returns-in-Err : goal.returns-in-Err
returns-in-Err g c =
    let past = past-run-char (g.E.Encoder.table c.args.encoder.now) c.args.html c.code_points.index c.in-Some.others.now c.in-Some.code_point
    c.code_points.invariant.0 c.in_ok-behind_run.ensures c.in-Some.ensures in
    rw c.at.ensures
    (stops-at (g.E.Encoder.table c.args.encoder.now) c.args.html c.in-Err.fault c.put_run.new.out.bytes c.put_code_point.new.out.bytes
    c.args.out.now.bytes _ _ c.code_points.state c.in-Some.code_point _ _ c.in-Err.ensures (past.whole ∙ c.code_points.invariant.2))

pub code_points-smaller : goal.code_points-smaller
code_points-smaller g c =
    let past = past-run-char (g.E.Encoder.table c.args.encoder.now) c.args.html c.code_points.index c.in-Some.others.now c.in-Some.code_point
    c.code_points.invariant.0 c.in_ok-behind_run.ensures c.in-Some.ensures in
    omega (arith, past.within, past.less)

pub code_points-preserved : goal.code_points-preserved
code_points-preserved g c =
    let past = past-run-char (g.E.Encoder.table c.args.encoder.now) c.args.html c.code_points.index c.in-Some.others.now c.in-Some.code_point
    c.code_points.invariant.0 c.in_ok-behind_run.ensures c.in-Some.ensures in (
      past.valid,
      omega (arith, past.within, past.less, c.code_points.invariant.1),
      goes (g.E.Encoder.table c.args.encoder.now) c.args.html c.put_run.new.out.bytes c.put_code_point.new.out.bytes _ c.code_points.state
          c.in-Ok.next c.in-Some.code_point _ c.in-Ok.ensures
          ∙ past.whole ∙ c.code_points.invariant.2,
    )
