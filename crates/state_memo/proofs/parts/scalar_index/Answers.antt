use Rattle.std.proofs.Common.{arith}
use Rattle.state_memo.proofs.Parting.{ascii_place}
use Rattle.state_memo.proofs.parts.scalar_index.Goals as goal

pub returns : goal.returns
returns c = ascii_place _ _ _ c.utf8.text c.as_bytes-bytes.ensures.value (omega arith) (omega arith) (omega arith) (omega arith) (omega arith)
