-- A few entries of the Standard's indexes, by pointer, for the decoders' worked examples.
use Rattle.std.specs.Prelude.{ℕ, [], ◌∷◌, ◌==◌, Option, Some, None, if◌then◌else◌}
use Rattle.enc_names.specs.declared.encoding.Encoding.TheVariants.{Windows1252}
use Rattle.index_loader.specs.{declared.kind.IndexKind.TheVariants.SingleByte, Index.Loaded, Index.code_point_of}

abbrev pub windows_1252 : Loaded
windows_1252 = record { kind = SingleByte Windows1252; pairs = (0, 0x20AC) ∷ (59, 0xBB) ∷ (63, 0xBF) ∷ [] }

abbrev pub windows_1252_entries : ℕ → Option ℕ
windows_1252_entries = code_point_of windows_1252

abbrev pub jis0208_entries : ℕ → Option ℕ
jis0208_entries pointer =
    if pointer == 0 then Some 0x3000
    else if pointer == 283 then Some 0x3042
    else if pointer == 1410 then Some 0x4E9C
    else None

abbrev pub jis0212_entries : ℕ → Option ℕ
jis0212_entries pointer = if pointer == 108 then Some 0x2D8 else None

abbrev pub gb18030_entries : ℕ → Option ℕ
gb18030_entries pointer =
    if pointer == 0 then Some 0x4E02
    else if pointer == 1 then Some 0x4E04
    else None

-- of index gb18030 ranges the code points of three pointers
abbrev pub gb18030_ranged_entries : ℕ → Option ℕ
gb18030_ranged_entries pointer =
    if pointer == 0 then Some 0x80
    else if pointer == 189000 then Some 0x10000
    else if pointer == 1237575 then Some 0x10FFFF
    else None
