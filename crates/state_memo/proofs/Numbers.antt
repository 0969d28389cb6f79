-- Numbers of a text as they are counted.
use Rattle.std.proofs.Common.{◌≡◌, refl, sym, ap, ◌∙◌, ℕ, ◌≤◌, Bool, true, false, List, [], ◌∷◌, length, length-append, arith}
use Rattle.state_memo.specs.TextFacts.{marks-few, scalars-few, utf16-few, lf-counts, cr-counts}
use Rattle.state_memo.specs.{Sums.sum_of, SumLaws.same_by}
use Rattle.state_memo.proofs.Prelude.{chars, IsUtf8, encode_utf8_all, encode_utf8, encodes-chars, length-encode, Sum, marks, ends_cr, utf8_width, utf16_width}
use Rattle.state_memo.proofs.Prelude.{total_width, Ended, errors_in, begins_lf}

pub width-encodes : (cs : List ℕ) → length (encode_utf8_all cs) ≡ total_width utf8_width cs
width-encodes [] = refl
width-encodes (c ∷ cs) = omega (arith, length-append (encode_utf8 c) (encode_utf8_all cs), length-encode c, width-encodes cs)

pub width-chars : (text : List ℕ) → IsUtf8 text → length text ≡ total_width utf8_width (chars text)
width-chars text u = sym (ap length (encodes-chars text u)) ∙ width-encodes (chars text)

-- what the ghost fields of a sum ask
pub record Facts (scalars utf16 utf8 marks : ℕ) (lf cr : Bool) : Type 0 where
  pub lf_counts : lf ≡ true → 1 ≤ marks
  pub cr_counts : cr ≡ true → 1 ≤ marks
  pub few_marks : marks ≤ scalars
  pub few_scalars : scalars ≤ utf8
  pub few_utf16 : utf16 ≤ utf8

pub facts : (cs : List ℕ) (scalars utf16 utf8 n : ℕ) (lf cr : Bool) → scalars ≡ length cs → utf16 ≡ total_width utf16_width cs
    → utf8 ≡ total_width utf8_width cs → n ≡ marks false cs → lf ≡ begins_lf cs → cr ≡ ends_cr false cs → Facts scalars utf16 utf8 n lf cr
facts cs scalars utf16 utf8 n lf cr a b c d e f =
    rw (a, b, c, d, e, f)
    (record { lf_counts = lf-counts cs; cr_counts = cr-counts cs; few_marks = marks-few false cs; few_scalars = scalars-few cs; few_utf16 = utf16-few cs })

pub is_sum_of : (s : Sum) (bytes : ℕ) (cs : List ℕ) (items : List Ended) → s.bytes ≡ bytes → s.scalars ≡ length cs
    → s.utf16 ≡ total_width utf16_width cs → s.utf8 ≡ total_width utf8_width cs
    → s.errors ≡ errors_in items → s.marks ≡ marks false cs → s.lf_first ≡ begins_lf cs → s.cr_last ≡ ends_cr false cs → s ≡ sum_of bytes cs items
unfolding sum_of
is_sum_of s bytes cs items a b c d e f g h = same_by s (sum_of bytes cs items) a b c d e f g h
