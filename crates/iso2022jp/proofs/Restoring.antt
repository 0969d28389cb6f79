-- No code point is restored twice.
use Rattle.std.proofs.{Common.◌≡◌, Common.◌≢◌, Common.ℕ, Common.Option, Common.rules, lemmas.Bool.Decides.nat_tests}
use Rattle.decoder_core.specs.declared.encoder.EncoderAnswer.TheVariants.{Restores}
use Rattle.iso2022jp.specs.{declared.output.OutputState.OutputState, Iso2022JpEncoder.iso_2022_jp_encoder}
use Rattle.iso2022jp.specs.declared.output.OutputState.TheVariants.{Ascii, Roman, Katakana, Jis0208}

pub settles : (pointer : ℕ → Option ℕ) (s : OutputState) (c : ℕ) → let table = iso_2022_jp_encoder pointer in
    (table s c).answer ≡ Restores → (table (table s c).state c).answer ≢ Restores
settles pointer Ascii c = Prim.search (rules, nat_tests)
settles pointer Roman c = Prim.search (rules, nat_tests)
settles pointer Katakana c = Prim.search (rules, nat_tests)
settles pointer Jis0208 c = Prim.search (rules, nat_tests)
