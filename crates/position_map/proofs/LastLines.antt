-- The line that a text ends on, found from its last line end.
use Rattle.std.proofs.Common.{ℕ, ◌≡◌, refl, sym, ap, Bool, ◌==◌, ◌&&◌, length-append, append_assoc, true}
use Rattle.position_map.proofs.Words.{◌∙◌, ◌+◌, ◌-◌, ◌<◌, ◌≤◌, false, List, [], ◌∷◌, ◌++◌, length, arith, Some, Ok, by_test, nat_tests, chars, cr, lf, is_mark}
use Rattle.position_map.proofs.Words.{one_if, marks, ends_cr, begins_lf, OnLine, Point, TextCut, TextUnit, IsCutAt, IsLastLine, IsLineStart, position_of, width}
use Rattle.std.proofs.Math.Bool.{and-false}
use Rattle.position_map.proofs.{LineMarks.marks-append, LineMarks.ends_cr-append, LineMarks.line_begins, Widths.width-append}
use Rattle.position_map.proofs.{NextLines.marks-flag_le, OnLines.cut-flag, OnLines.cut-marks, OnLines.cut-on_line, OnLines.position_found, Pointing.point-from}

-- a line end with which a text ends, or which no other follows, is whole
apart : (line back : List ℕ) (c : ℕ) → marks false line ≡ 0 → (ends_cr (c == cr) line && begins_lf back) ≡ false
    → ((c == cr) && begins_lf (line ++ back)) ≡ false
apart [] back c none h = h
apart (x ∷ xs) back c none h =
    by_test (x == lf) (λ t. absurd (let m : is_mark false x ≡ true = grind (arith, nat_tests) in omega (arith, none, ap one_if m)))
    (λ t. rw t (and-false (c == cr)))

-- the start of the line that a text ends on; the text takes `whole` units
pub record IsBegun (u : TextUnit) (text : List ℕ) (number line whole : ℕ) : Type 0 where
  pub start : Point
  pub is : IsLineStart u text number start
  pub units : start.units + line ≡ whole

-- the line that a part of a text ends on, if a CR LF isn't cut after it
pub last_begins : (u : TextUnit) (text a part b line : List ℕ) → text ≡ (a ++ part) ++ b → IsLastLine part line
    → (ends_cr false (a ++ part) && begins_lf b) ≡ false → IsBegun u text (marks false (a ++ part)) (width u line) (width u (a ++ part))
last_begins u text a part b line cut e off =
    let g = a ++ e.front in
    let head = g ++ e.c ∷ [] in
    let whole : a ++ part ≡ g ++ e.c ∷ line = rw (e.split, ← append_assoc a e.front (e.c ∷ line)) refl in
    let split : text ≡ g ++ e.c ∷ (line ++ b) = cut ∙ rw (whole, append_assoc g (e.c ∷ line) b) refl in
    let parts : a ++ part ≡ head ++ line = whole ∙ sym (append_assoc g (e.c ∷ []) line) in
    let whole_end : (ends_cr (e.c == cr) line && begins_lf b) ≡ false = rw (whole, ends_cr-append false g (e.c ∷ line)) at off in
    let number : marks false head ≡ marks false (a ++ part) =
    omega (arith, marks-append false head line, marks-flag_le (ends_cr false head) line, e.none, ap (marks false) parts) in
    let p : Point = record { scalars = length head; units = width u head } in
    record {
      start = p;
      is = record {
        point = point-from u text head (line ++ b) p (split ∙ sym (append_assoc g (e.c ∷ []) (line ++ b))) refl refl;
        is = rw (split, ← number) (line_begins g e.c (line ++ b) e.is (apart line b e.c e.none whole_end) ∙ ap Some (sym (length-append g (e.c ∷ []))));
      };
      units = omega (arith, ap (width u) parts, width-append u head line);
    }

-- the position of an offset whose line begins in its piece
pub position_near : (u : TextUnit) (text : List ℕ) (offset : ℕ) (x : TextCut) (line : List ℕ) (b : Bool) (m v : ℕ) (k : IsCutAt text offset x)
    → IsLastLine (chars x.front.now) line → b ≡ (ends_cr x.before.cr_last (chars x.front.now) && begins_lf (chars x.rest.now)) → b ≡ false
    → m ≡ marks x.before.cr_last (chars x.front.now) → v ≡ width u line → offset ≤ length text
    → Ok (record { line = x.before.marks + m; character = v }) ≡ position_of text u offset
position_near u text offset x line b m v k e flag off em ev within =
    let front = k.is.front ++ chars x.front.now in
    let n = last_begins u text k.is.front (chars x.front.now) k.is.back line k.is.split e (cut-flag text offset x k b flag ∙ off) in
    let p : OnLine = record { line = marks false front; units = width u front } in
    let same : v ≡ p.units - n.start.units = omega (arith, ev, n.units) in
    rw (em, cut-marks text offset x k, same) (position_found u text offset p n.start (cut-on_line text offset x k b flag u off) n.is within)

-- where a mark is in front, a line end is
pub some_end : (x : TextCut) (m : ℕ) → m ≡ marks x.before.cr_last (chars x.front.now) → 0 < m → marks false (chars x.front.now) ≡ 0 → ⊥
some_end x m e h none = omega (arith, e, h, none, marks-flag_le x.before.cr_last (chars x.front.now))
