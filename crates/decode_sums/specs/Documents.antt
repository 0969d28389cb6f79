-- The short documents that are decoded.
use Rattle.std.specs.Prelude.{ℕ, ◌+◌, ◌/◌, ◌%◌, List, [], ◌∷◌}
use Rattle.decode_sums.specs.declared.form.Form.{Form}
use Rattle.decode_sums.specs.declared.form.Form.TheVariants.{Single, Pair, PairBehind, PairBehindEscape, Four}

-- how many documents there are of a form
abbrev pub count_of : Form → ℕ
count_of Single = 256
count_of Pair = 65536
count_of (PairBehind _) = 65536
count_of (PairBehindEscape _ _) = 65536
count_of Four = 1587600

-- the pair of bytes with a number, in ascending order
abbrev pub pair_of : ℕ → List ℕ
pair_of n = n / 256 % 256 ∷ n % 256 ∷ []

-- the document of a form with a number, in ascending order
abbrev pub document_of : Form → ℕ → List ℕ
document_of Single n = n % 256 ∷ []
document_of Pair n = pair_of n
document_of (PairBehind lead) n = lead ∷ pair_of n
document_of (PairBehindEscape second third) n = 27 ∷ second ∷ third ∷ pair_of n
document_of Four n = (129 + n / 12600 % 126) ∷ (48 + n / 1260 % 10) ∷ (129 + n / 10 % 126) ∷ (48 + n % 10) ∷ []
