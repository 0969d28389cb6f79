-- EUC-JP (Encoding Standard, "EUC-JP encoder"), which never writes index jis0212.
use Rattle.std.specs.Prelude.{ℕ, ◌+◌, ◌-◌, ◌/◌, ◌%◌, ◌==◌, List, Option, Some, option_map, if◌then◌else◌}
use Rattle.decoder_core.specs.Forms.{within}
use Rattle.index_loader.specs.Index.{Loaded}
use Rattle.encoders.specs.{Pairs.ShiftJis.minus_folded, Stateless.ascii_or, Stateless.one, Stateless.two, Steps.jis_pointer}

abbrev pub euc_jp_pair : ℕ → List ℕ
euc_jp_pair p = two (p / 94 + 0xA1) (p % 94 + 0xA1)

abbrev pub euc_jp_bytes : Loaded → ℕ → Option (List ℕ)
euc_jp_bytes index c =
    ascii_or c
    (if c == 0xA5 then Some (one 0x5C)
    else if c == 0x203E then Some (one 0x7E)
    else if within 0xFF61 0xFF9F c then Some (two 0x8E (c - 0xFF61 + 0xA1))
    else option_map euc_jp_pair (jis_pointer index (minus_folded c)))
