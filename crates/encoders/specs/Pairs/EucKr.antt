-- EUC-KR (Encoding Standard, "EUC-KR encoder").
use Rattle.std.specs.Prelude.{ℕ, ◌+◌, ◌/◌, ◌%◌, List, Option, option_map}
use Rattle.index_loader.specs.Index.{Loaded, pointer_of}
use Rattle.encoders.specs.Stateless.{ascii_or, two}

abbrev pub euc_kr_pair : ℕ → List ℕ
euc_kr_pair p = two (p / 190 + 0x81) (p % 190 + 0x41)

abbrev pub euc_kr_bytes : Loaded → ℕ → Option (List ℕ)
euc_kr_bytes index c = ascii_or c (option_map euc_kr_pair (pointer_of index c))
