use Rattle.desk.proofs.Prelude.{◌≡◌, ℕ, ◌+◌, ◌*◌, ◌^◌, ◌<◌, ◌≤◌, length, text_of, pieces_most, page_of}
use Rattle.desk.proofs.ops.lines.page.Given as goal

abbrev pub invariant-lines : goal.invariant-lines
invariant-lines l = record {
  doc : l.cursor.doc ≡ l.document;
  number : l.cursor.number ≡ l.from + l.counter;
  page : l.lines.items ≡ page_of (text_of l.document) l.from l.counter;
  count : length l.lines.items ≡ l.counter;
  most : (d : ℕ) → pieces_most l.document < 2 ^ d → l.visits ≤ l.fn.visits + (l.counter + 1) * (2 * (d + 2));
}
