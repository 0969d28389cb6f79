use Rattle.std.proofs.{Common.arith, lemmas.Grind.common_steps}
use Rattle.enc_names.proofs.Tables.{table_of-append}
use Rattle.enc_names.proofs.labels.file.add_label.Goals as goal

pub returns-in_ok-map_err : goal.returns-in_ok-map_err
returns-in_ok-map_err c = grind (arith, common_steps, table_of-append)
