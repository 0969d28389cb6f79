-- Code points that a single-byte encoding has, before a text.
use Rattle.std.specs.Prelude.{◌≡◌, ℕ, List, ◌++◌, map, Some}
use Rattle.index_loader.specs.Index.{Loaded}
use Rattle.encoders.specs.{SingleByte.single_byte_bytes, Stateless.one}

-- code points before others, which have these bytes, one each
pub record IsBytewise (index : Loaded) (all bytes rest : List ℕ) : Type 0 where
  pub front : List ℕ
  pub parts : all ≡ front ++ rest
  pub each : map (single_byte_bytes index) front ≡ map (λ b. Some (one b)) bytes
