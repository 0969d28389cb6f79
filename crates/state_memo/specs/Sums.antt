-- Numbers of a part of a document.
use Rattle.std.specs.Prelude.{ℕ, ◌+◌, ◌-◌, ◌<◌, ◌^◌, false, ◌&&◌, ◌==◌, List, length, if◌then◌else◌}
use Rattle.std.proofs.Common.{arith}
use Rattle.lane_ascii.specs.Marks.{marks, ends_cr, one_if}
use Rattle.lane_utf.specs.Widths.{utf8_width, utf16_width, total_width}
use Rattle.state_memo.specs.{Items.errors_in, Lines.begins_lf, SumFacts.no_flag, SumFacts.lf_joins, SumFacts.cr_joins}
use Rattle.state_memo.specs.TextFacts.{marks-few, scalars-few, utf16-few, lf-counts, cr-counts}
use Rattle.state_memo.specs.declared.axis.Axis.{Axis, TheVariants.Byte, TheVariants.Scalar, TheVariants.Utf16, TheVariants.Utf8, TheVariants.Mark}
use Rattle.state_memo.specs.declared.{ended.Ended.Ended, sum.Sum.Sum}

-- the numbers of a part of a document: of `bytes` bytes, with these code points and items
unfoldable pub sum_of : ℕ → List ℕ → List Ended → Sum
sum_of bytes cs items = record {
  bytes = bytes;
  scalars = length cs;
  utf16 = total_width utf16_width cs;
  utf8 = total_width utf8_width cs;
  errors = errors_in items;
  marks = marks false cs;
  lf_first = begins_lf cs;
  cr_last = ends_cr false cs;
  lf_counts = lf-counts cs;
  cr_counts = cr-counts cs;
  few_marks = marks-few false cs;
  few_scalars = scalars-few cs;
  few_utf16 = utf16-few cs;
}

-- no text
abbrev pub no_sum : Sum
no_sum = record {
  bytes = 0;
  scalars = 0;
  utf16 = 0;
  utf8 = 0;
  errors = 0;
  marks = 0;
  lf_first = false;
  cr_last = false;
  lf_counts = no_flag;
  cr_counts = no_flag;
  few_marks = Prim.omega arith;
  few_scalars = Prim.omega arith;
  few_utf16 = Prim.omega arith;
}

-- the numbers of two parts in a row; CR and LF that meet are one mark
abbrev pub joined : Sum → Sum → Sum
joined a b = record {
  bytes = a.bytes + b.bytes;
  scalars = a.scalars + b.scalars;
  utf16 = a.utf16 + b.utf16;
  utf8 = a.utf8 + b.utf8;
  errors = a.errors + b.errors;
  marks = a.marks + b.marks - one_if (a.cr_last && b.lf_first);
  lf_first = if a.scalars == 0 then b.lf_first else a.lf_first;
  cr_last = if b.scalars == 0 then a.cr_last else b.cr_last;
  lf_counts = lf_joins a b;
  cr_counts = cr_joins a b;
  few_marks = Prim.omega (arith, a.few_marks, b.few_marks);
  few_scalars = Prim.omega (arith, a.few_scalars, b.few_scalars);
  few_utf16 = Prim.omega (arith, a.few_utf16, b.few_utf16);
}

-- each number stays below 2 ^ 32: the ghost fields bound the other three
pub record Fits (s : Sum) : Type 0 where
  pub bytes : s.bytes < 2 ^ 32
  pub utf8 : s.utf8 < 2 ^ 32
  pub errors : s.errors < 2 ^ 32

-- the number of a sum that is counted in
abbrev pub measure : Axis → Sum → ℕ
measure Byte s = s.bytes
measure Scalar s = s.scalars
measure Utf16 s = s.utf16
measure Utf8 s = s.utf8
measure Mark s = s.marks
