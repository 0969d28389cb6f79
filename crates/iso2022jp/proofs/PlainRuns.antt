-- The bytes in front of a text that the encoder puts as they are in its state ASCII.
use Rattle.std.proofs.Common.{◌≡◌, ℕ, ◌<◌, true, List, All, Option, get_or, take, length, ◌≤◌, rules, get_or-take}
use Rattle.std.proofs.lemmas.{Bool.Decides.nat_tests, List.Folds.length-prefix_len, List.Sums.prefix_len_passes, List.Sums.prefix_len-le-length}
use Rattle.lane_ascii.specs.Runs.{is_plain, plain_len}
use Rattle.iso2022jp.specs.{declared.output.OutputState.TheVariants.Ascii, Iso2022JpEncoder.iso_2022_jp_encoder}
use Rattle.decoder_core.specs.EncoderSteps.{PutsItself}

itself : (pointer : ℕ → Option ℕ) (b : ℕ) → is_plain b ≡ true → PutsItself (iso_2022_jp_encoder pointer) Ascii b
itself pointer b plain = Prim.search (rules, nat_tests)

pub plain_run : (pointer : ℕ → Option ℕ) (text : List ℕ) → All (PutsItself (iso_2022_jp_encoder pointer) Ascii) (take (plain_len text) text)
plain_run pointer text = λ k d lt.
    let below : k < plain_len text = rw (length-prefix_len is_plain text) at lt in
    rw (get_or-take (plain_len text) text k d below) (itself pointer (get_or text k d) (prefix_len_passes is_plain text k d below))

pub plain_within : (text : List ℕ) → plain_len text ≤ length text
plain_within text = prefix_len-le-length is_plain text
