-- Runs of ASCII that an encoder puts as they are.
use Rattle.std.specs.Prelude.{◌≡◌, ℕ, List, ◌++◌, All}
use Rattle.decoder_core.specs.EncoderSteps.{PutsItself, Table}

-- a run before a text was put, and the rest of the text follows it
pub record IsRun {S : Type 0} (table : Table S) (s : S) (text rest old new : List ℕ) : Type 0 where
  pub run : List ℕ
  pub parts : text ≡ run ++ rest
  pub plain : All (PutsItself table s) run
  pub put : new ≡ old ++ run
