-- Widths of code points in each unit (Unicode, chapter 3, D90 to D92; LSP 3.17, "PositionEncodingKind").
use Rattle.std.specs.Prelude.{ℕ, List}
use Rattle.lane_utf.specs.Widths.{utf8_width, utf16_width, utf32_width, total_width}
use Rattle.position_map.specs.declared.unit.Unit.{Unit as TextUnit, TheVariants.Utf8, TheVariants.Utf16, TheVariants.Utf32}

-- how many units a code point takes
abbrev pub width_of : TextUnit → ℕ → ℕ
width_of Utf8 = utf8_width
width_of Utf16 = utf16_width
width_of Utf32 = utf32_width

-- how many units code points take
abbrev pub width : TextUnit → List ℕ → ℕ
width unit cs = total_width (width_of unit) cs
