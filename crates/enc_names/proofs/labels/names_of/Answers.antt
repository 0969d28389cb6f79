use Rattle.std.proofs.{Common.arith, lemmas.Grind.common_steps}
use Rattle.enc_names.proofs.Tables.{table_of-append, labels_of-take_more}
use Rattle.enc_names.proofs.labels.names_of.Goals as goal

pub loop-encoding-preserved : goal.loop-encoding-preserved
loop-encoding-preserved c = grind (arith, common_steps, table_of-append, labels_of-take_more)
