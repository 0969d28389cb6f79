use Rattle.std.proofs.Common.{◌≡◌, ap, sym, ◌∙◌, ℕ, List, [], Some}
use Rattle.codec.proofs.Prelude.{Setting, Loaded, Fed, feed, AnyState, in_iso_2022_jp, AnyDecoding, any, any_start, decoder_in, state_behind}
use Rattle.index_loader.specs.Files.{Files}
use Rattle.codec.proofs.Choosing.{chosen, behind}
use Rattle.codec.proofs.OutputStates.{IsoLaws, output_of_state, output_at_mark, mark_fits, decoded_in_force, output_at_byte, output_at_last}
use Rattle.codec.proofs.output_laws.law_output_at_the_end.Goals as goal

pub returns : goal.returns
returns c =
    let iso = c.law_output_at_the_end.ensures in
    let among = c.law_all_among.ensures in
    let laws : (jis0208 : Loaded) → IsoLaws jis0208 =
    λ jis0208. record {
      stays = iso.stays jis0208;
      byte = iso.byte jis0208;
      end = iso.end jis0208;
      runs = λ d lift. among.runs jis0208 d in_iso_2022_jp lift;
      feeds = λ d lift. among.feeds jis0208 d in_iso_2022_jp lift;
    } in
    let stands : (files : Files) (setting : Setting) (d : AnyDecoding) (bytes : List ℕ) → decoder_in files setting ≡ Some d
    → (feed (any d) (any_start d) bytes).state ≡ state_behind files setting bytes =
    λ files setting d bytes is. c.law_standing.ensures.state d bytes ∙ behind files setting d (rw is at (chosen files setting).1) bytes in
    record {
      state = output_of_state;
      mark = output_at_mark;
      mark_fits = mark_fits;
      there = λ files setting. (chosen files setting).0;
      in_force = decoded_in_force;
      start = λ files setting d is. sym (ap (λ (f : Fed AnyState). f.state) (c.law_all_runs.ensures.feed_empty d (any_start d))) ∙ stands files setting d [] is;
      behind = stands;
      parts = λ d s p q. ap (λ (f : Fed AnyState). f.state) (c.law_all_runs.ensures.feed_parts d s p q);
      byte = output_at_byte laws;
      end = output_at_last laws;
    }
