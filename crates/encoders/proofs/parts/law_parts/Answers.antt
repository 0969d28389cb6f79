use Rattle.encoders.proofs.Joining.{part-before, part-join, part-target, part-whole}
use Rattle.encoders.proofs.parts.law_parts.Goals as goal

pub returns-clause-join : goal.returns-clause-join
returns-clause-join c = part-join

pub returns-clause-before : goal.returns-clause-before
returns-clause-before c = part-before

pub returns-clause-whole : goal.returns-clause-whole
returns-clause-whole c = part-whole

pub returns-clause-target : goal.returns-clause-target
returns-clause-target c = part-target
