use Rattle.index_loader.specs.Index.{Loaded, code_point_of}
use Rattle.iso2022jp.specs.Iso2022Jp.{iso_2022_jp}
use Rattle.iso2022jp.proofs.OutputStates.{TurnByTurn, output_at_byte, output_at_last, output_stays}
use Rattle.iso2022jp.proofs.laws.law_output_at_the_end.Goals as goal

pub returns : goal.returns
returns c =
    let law = c.law_all_runs.ensures in
    let turns : (jis0208 : Loaded) → TurnByTurn (iso_2022_jp (code_point_of jis0208)) =
    λ jis0208. record {
      turn = law.turn jis0208;
      feed_empty = law.feed_empty jis0208;
      feed_turn = law.feed_turn jis0208;
      feed_parts = law.feed_parts jis0208;
    } in
    record {
      byte = λ jis0208. output_at_byte (code_point_of jis0208) (turns jis0208);
      end = λ jis0208. output_at_last (code_point_of jis0208) (turns jis0208);
      stays = λ jis0208. output_stays (code_point_of jis0208) (turns jis0208);
    }
