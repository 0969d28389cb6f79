use Rattle.gateway.proofs.traces.head_reader.HeadReader.take.Goals as goal

pub returns-then-is_comment-clause-takes : goal.returns-then-is_comment-clause-takes
returns-then-is_comment-clause-takes c = c.skip.ensures.skips c.args.gateway.now.office
