-- Escapes at the front, each byte of which is held.
use Rattle.std.proofs.Common.{◌≡◌, ℕ, ◌≤◌, true, false, ◌||◌, ◌==◌, List, length, get_or, Option, Some, refl, arith}
use Rattle.std.proofs.lemmas.Bool.Decides.{nat_tests}
use Rattle.decoder_core.specs.Escapes.{IsHeldFront}
use Rattle.iso2022jp.specs.declared.output.OutputState.{OutputState}
use Rattle.iso2022jp.specs.declared.state.DecoderState.TheVariants.{Ready, EscapeStart, Escape}
use Rattle.iso2022jp.specs.Iso2022Jp.{Iso2022Jp, iso_2022_jp, entering, escape_to, switched}

pub escape_held : (jis0208 : ℕ → Option ℕ) (s : Iso2022Jp) (ready to : OutputState) (bytes : List ℕ) → s.state ≡ Ready ready → s.flag ≡ false → 3 ≤ length bytes
    → get_or bytes 0 0 ≡ 0x1B → escape_to (get_or bytes 1 0) (get_or bytes 2 0) ≡ Some to → IsHeldFront (iso_2022_jp jis0208) s bytes (switched to)
escape_held jis0208 s ready to bytes is_ready flag within first names =
    let lead = get_or bytes 1 0 in
    let opens : (lead == 0x24 || lead == 0x28) ≡ true = Prim.grind (arith, nat_tests, names) in
    record {
      within = within;
      one = entering s EscapeStart;
      two = entering (entering s EscapeStart) (Escape lead);
      first = rw (first, is_ready) refl;
      second = rw opens refl;
      third = rw (names, flag) refl;
    }
