use Rattle.std.proofs.Common.{refl}
use Rattle.state_memo.{specs.Outcome.outcome_of, specs.Sums.sum_of, proofs.Fitting.fits-total_of, proofs.Joining.IsSumOf-joined}
use Rattle.state_memo.proofs.laws.law_pieces.Goals as goal

pub returns-clause-exit : goal.returns-clause-exit
unfolding outcome_of
returns-clause-exit c = λ entry bytes. refl

pub returns-clause-bytes : goal.returns-clause-bytes
unfolding outcome_of sum_of
returns-clause-bytes c = λ entry bytes. refl

pub returns-clause-joined : goal.returns-clause-joined
returns-clause-joined c = IsSumOf-joined

pub returns-clause-fit : goal.returns-clause-fit
returns-clause-fit c = fits-total_of
