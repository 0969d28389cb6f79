-- Numbers of a text (LSP 3.17, "Text Documents": CR LF, CR and LF end a line).
use Rattle.std.specs.{Prelude.ℕ, Prelude.◌+◌, Prelude.◌==◌, Prelude.◌||◌, Prelude.◌&&◌, Prelude.Bool, Prelude.false, Prelude.List, Prelude.[], Prelude.◌∷◌}
use Rattle.std.specs.Prelude.{count_by, length, if◌then◌else◌}
use Rattle.lane_ascii.specs.Marks.{cr, lf, ends_cr, marks, one_if}
use Rattle.streams.specs.declared.counts.Counts.{Counts}

-- how often a code point is in a text
abbrev pub count_of : ℕ → List ℕ → ℕ
count_of x cs = count_by (λ c. c == x) cs

-- how many LFs follow a CR; the flag says whether a CR precedes the text
abbrev pub pairs : Bool → List ℕ → ℕ
pairs after_cr [] = 0
pairs after_cr (c ∷ cs) = one_if (after_cr && (c == lf)) + pairs (c == cr) cs

-- whether a code point is a CR or an LF
abbrev pub is_end : ℕ → Bool
is_end c = (c == cr) || (c == lf)

-- the code points after the last CR or LF of a text that follows `n` others on their line
abbrev pub column_on : ℕ → List ℕ → ℕ
column_on n [] = n
column_on n (c ∷ cs) = if is_end c then column_on 0 cs else column_on (n + 1) cs

-- the numbers of no text
abbrev pub no_counts : Counts
no_counts = record { characters = 0; lines = 0; crs = 0; pairs = 0; column = 0; after_cr = false }

-- those with more text
abbrev pub counted : Counts → List ℕ → Counts
counted c cs = record {
  characters = c.characters + length cs;
  lines = c.lines + marks c.after_cr cs;
  crs = c.crs + count_of cr cs;
  pairs = c.pairs + pairs c.after_cr cs;
  column = column_on c.column cs;
  after_cr = ends_cr c.after_cr cs;
}
