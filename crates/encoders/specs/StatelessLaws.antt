-- Proofs that a trait asks for; there is nothing to believe here. What all encoders that keep no state have in common.
use Rattle.std.specs.Prelude.{◌≡◌, ℕ, Bool, true, List, Option, Some, if◌then◌else◌}
use Rattle.std.proofs.Common.{ap}
use Rattle.decoder_core.specs.Forms.{is_ascii}
use Rattle.encoders.specs.Stateless.{ascii_or, one}

pub by_ascii_or : (other : Option (List ℕ)) (c : ℕ) → is_ascii c ≡ true → ascii_or c other ≡ Some (one c)
by_ascii_or other c is = ap (λ (b : Bool). if b then Some (one c) else other) is
