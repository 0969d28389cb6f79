use Rattle.document_tests.proofs.WorkedSession.{session_worked}
use Rattle.document_tests.proofs.of_desk.truncated_sequence_is_completed.Goals as goal

pub returns : goal.returns
returns c = session_worked
