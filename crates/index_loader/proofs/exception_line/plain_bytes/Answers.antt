use Rattle.index_loader.proofs.ExceptionLemmas.{bytes-alone}
use Rattle.index_loader.proofs.exception_line.plain_bytes.Goals as goal

pub returns : goal.returns
returns c = bytes-alone c.args.text.now c.bytes_in-2.result c.bytes_in-2.ensures
