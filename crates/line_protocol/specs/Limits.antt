-- The limit of lines.
use Rattle.std.specs.Prelude.{ℕ}

-- the most bytes of a line, its line feed left out
abbrev pub line_limit : ℕ
line_limit = 4194304
