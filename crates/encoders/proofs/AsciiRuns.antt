-- The ASCII bytes in front of a text, which an encoder that keeps no state puts as they are.
use Rattle.std.proofs.Common.{◌≡◌, ℕ, zero, suc, ◌+◌, ◌<◌, ◌≤◌, Bool, true, false, List, [], ◌∷◌, All, Option, Some, cond, nat_lt, get_or, take, length}
use Rattle.std.{proofs.Common.arith, proofs.Common.ap, proofs.Common.lit≤, specs.Str.IsAscii}
use Rattle.std.proofs.lemmas.{Bool.Decides.nat_tests, List.length-take-le, Str.Ascii.IsAscii-from_all}
use Rattle.std.proofs.lemmas.List.{get_or-take, Folds.length-prefix_len, Sums.prefix_len_passes, Sums.prefix_len-le-length}
use Rattle.decoder_core.specs.Forms.{is_ascii}
use Rattle.lane_ascii.specs.Runs.{ascii_len}
use Rattle.encoders.specs.{Stateless.bytes_turn, Stateless.stateless, Steps.PutsItself}

pub ascii_within : (text : List ℕ) → ascii_len text ≤ length text
ascii_within text = prefix_len-le-length (λ b. nat_lt b 0x80) text

pub ascii_front : (text : List ℕ) (n : ℕ) → n ≤ ascii_len text → IsAscii (take n text)
ascii_front text n low = IsAscii-from_all (take n text) (λ k d lt.
    let in_run : k < n = rw (length-take-le n text (omega (arith, low, ascii_within text))) at lt in
    let passes = prefix_len_passes (λ b. nat_lt b 0x80) text k d (omega (arith, in_run, low)) in
    rw (get_or-take n text k d in_run) (grind (arith, nat_tests, passes)))

-- those before a part are before the whole
part-longer : (c : Bool) (n m : ℕ) → n ≤ m → cond c (1 + n) 0 ≤ cond c (1 + m) 0
part-longer true n m h = omega arith
part-longer false n m h = lit≤ tt

pub ascii_part : (k : ℕ) (text : List ℕ) → ascii_len (take k text) ≤ ascii_len text
ascii_part zero text = omega arith
ascii_part (suc k) [] = lit≤ tt
ascii_part (suc k) (b ∷ text) = part-longer (nat_lt b 0x80) _ _ (ascii_part k text)

module _ (bytes : ℕ → Option (List ℕ)) (same : (c : ℕ) → is_ascii c ≡ true → bytes c ≡ Some (c ∷ [])) where
  itself : (b : ℕ) → nat_lt b 0x80 ≡ true → PutsItself (stateless bytes) tt b
  itself b low = (grind (arith, nat_tests), ap (bytes_turn b) (same b (grind (arith, nat_tests))))

  pub ascii_run : (text : List ℕ) → All (PutsItself (stateless bytes) tt) (take (ascii_len text) text)
  ascii_run text = λ k d lt.
      let in_run : k < ascii_len text = rw (length-prefix_len (λ b. nat_lt b 0x80) text) at lt in
      rw (get_or-take (ascii_len text) text k d in_run) (itself (get_or text k d) (prefix_len_passes (λ b. nat_lt b 0x80) text k d in_run))
