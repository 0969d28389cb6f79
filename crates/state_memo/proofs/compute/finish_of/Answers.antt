use Rattle.std.proofs.Common.{[]}
use Rattle.decoder_core.specs.Queue.{run}
use Rattle.state_memo.proofs.Prelude.{IfOk-weaker, any, output_of, contents_of}
use Rattle.state_memo.proofs.Gathered.{ended, done-ending, ended-is}
use Rattle.state_memo.proofs.compute.finish_of.Goals as goal

pub finish-requires : goal.finish-requires
finish-requires c =
    done-ending (output_of c.args.state) (run (any c.args.decoder.now) c.args.state []) c.take_last.new.self (c.law_few_items.ensures.end c.args.state)
    (rw (c.output-output.ensures, c.as_slice.ensures, c.finish-last.ensures.items) at
    (ended-is c.output-output.result c.as_slice.result.now c.new-gathering.result c.take_last.new.self c.new-gathering.ensures c.in_ok-take_last.ensures))

pub returns : goal.returns
returns c =
    IfOk-weaker c.finish.result _ _
    (λ o e. ended c.args.decoder.now c.args.state c.take_last.new.self (contents_of o)
    (rw (c.output-output.ensures, c.as_slice.ensures, c.finish-last.ensures.items) at
    (ended-is c.output-output.result c.as_slice.result.now c.new-gathering.result c.take_last.new.self c.new-gathering.ensures c.in_ok-take_last.ensures)) e)
    c.finish.ensures
