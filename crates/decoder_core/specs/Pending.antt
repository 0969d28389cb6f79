-- What holds of each state of the UTF-8 decoder: the boundaries are those of a trail byte, and what is pending can only become a scalar value.
use Rattle.std.specs.Prelude.{◌≡◌, ℕ, ◌+◌, ◌<◌, ◌≤◌}

pub record IsPending (code_point seen needed lower upper : ℕ) : Type 0 where
  pub low : 0x80 ≤ lower
  pub high : upper ≤ 0xBF
  pub few : needed ≤ 3
  pub some : 0 < needed → seen < needed
  -- one byte needed still: no surrogate and not above 10FFFF
  pub last : needed ≡ seen + 1 → code_point ≤ 0x43FF
  pub no_surrogate : needed ≡ seen + 1 → 0x360 ≤ code_point → 0x380 ≤ code_point
  -- two: the boundaries keep ED from making a surrogate
  pub second : needed ≡ seen + 2 → code_point ≤ 0x10F
  pub no_surrogates : needed ≡ seen + 2 → code_point ≡ 0xD → upper ≤ 0x9F
  -- three: the boundaries keep F4 from passing 10FFFF
  pub third : needed ≡ seen + 3 → code_point ≤ 4
  pub least : needed ≡ seen + 3 → code_point ≡ 0 → 0x90 ≤ lower
  pub most : needed ≡ seen + 3 → code_point ≡ 4 → upper ≤ 0x8F
