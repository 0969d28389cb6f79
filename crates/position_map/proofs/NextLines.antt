-- The next line, found from the one before.
use Rattle.std.proofs.Common.{ℕ, ◌≡◌, refl, sym, ap, ◌∙◌, Bool, ◌==◌, ◌&&◌, length-append, take, append_assoc}
use Rattle.position_map.proofs.Words.{◌+◌, ◌-◌, ◌<◌, ◌≤◌, true, false, List, [], ◌∷◌, ◌++◌, length, drop, arith, Option, Some, Result, Ok, map_some, option_map}
use Rattle.position_map.proofs.Words.{ok_or, slice_get, chars, take_at, drop_at, nat_tests, cr, is_mark, one_if, marks, ends_cr, begins_lf, LineMark, Point}
use Rattle.position_map.proofs.Words.{Position, PosFault, SplitsCharacter, TextUnit, Utf8, IsScalarCut, IsRestBehind, lines_of, IsMark, IsMarkAt, IsMarkCut}
use Rattle.position_map.proofs.Words.{IsLineStart, start_of, IsNextLine, IsAhead, along, between, offset_at, offset_of, IsTextEnd, IsBehind, width, same_some}
use Rattle.position_map.{specs.declared.lines.NextLine.NextLine, proofs.Alongs.along_none}
use Rattle.position_map.proofs.LineMarks.{marks-append, ends_cr-append, IsMark-end, IsMark-next, first_start, last_end, line_count, line_is, behind}
use Rattle.position_map.proofs.{Pointing.regroup, Pointing.point-from, Pointing.line_start_behind, Pointing.cond_by, Pointing.is_ending, Widths.width-append}

-- a CR in front makes no more marks
pub marks-flag_le : (f : Bool) (cs : List ℕ) → marks f cs ≤ marks false cs
marks-flag_le true [] = omega arith
marks-flag_le true (c ∷ cs) = let le : one_if (is_mark true c) ≤ one_if (is_mark false c) = grind (arith, nat_tests) in omega (arith, le)
marks-flag_le false cs = omega arith

first_mark : (f : Bool) (fs : List ℕ) (c : ℕ) (more : List ℕ) → is_mark (ends_cr false fs) c ≡ true
    → (f && begins_lf (fs ++ c ∷ more)) ≡ false → is_mark (ends_cr f fs) c ≡ true
first_mark f [] c more h g = grind (arith, nat_tests)
first_mark f (x ∷ xs) c more h g = h

-- a mark in the rest of the piece
ahead_is : (text : List ℕ) (n : ℕ) (x : NextLine) (fs : List ℕ) (c : ℕ) (near : List ℕ) (l : IsNextLine text n x)
    → IsMarkCut false (chars x.rest.now) 0 fs (c ∷ near) → IsMark text n (l.front ++ fs) c (near ++ l.far)
ahead_is text n x fs c near l k = record {
  split = regroup l.front fs (c ∷ near) l.far l.split k.split;
  count = omega (arith, marks-append false l.front fs, marks-flag_le (ends_cr false l.front) fs, k.count, l.count);
  is = rw (ends_cr-append false l.front fs)
      (first_mark (ends_cr false l.front) fs c (near ++ l.far) k.is (rw (k.split, append_assoc fs (c ∷ near) l.far) at l.apart));
}

pub mark_ahead : (text : List ℕ) (n : ℕ) (x : NextLine) (fs rs : List ℕ) (m : LineMark) → IsNextLine text n x
    → IsMarkCut false (chars x.rest.now) 0 fs rs → IsBehind Utf8 x.start.scalars x.start.units fs m.at → chars m.rest.now ≡ rs → IsMarkAt Utf8 text n m
mark_ahead text n x fs [] m l k p r = let none = k.is in cc
mark_ahead text n x fs (c ∷ near) m l k p r =
    let mark = ahead_is text n x fs c near l k in
    let at : m.at.scalars ≡ length (l.front ++ fs) = omega (arith, p.scalars_are, l.at, length-append l.front fs) in
    record {
      front = l.front ++ fs;
      c = c;
      near = near;
      far = l.far;
      mark = mark;
      at = at;
      point = point-from Utf8 text (l.front ++ fs) (c ∷ (near ++ l.far)) m.at mark.split at
          (omega (arith, p.units_are, l.units, width-append Utf8 l.front fs));
      rest = r;
    }

-- the offset of a character on a line that ends in the rest of the piece
pub offset_near : (u : TextUnit) (text : List ℕ) (at : Position) (x : NextLine) (fs rs : List ℕ) (r : Result ℕ PosFault)
    → IsNextLine text at.line x → IsMarkCut false (chars x.rest.now) 0 fs rs
    → r ≡ ok_or (option_map (λ k. x.start.scalars + k) (along u fs at.character)) SplitsCharacter → r ≡ offset_of text u at
unfolding offset_of
offset_near u text at x fs [] r l k e = let none = k.is in cc
offset_near u text at x fs (c ∷ near) r l k e =
    let mark = ahead_is text at.line x fs c near l k in
    let start = x.start.scalars in
    let end = length (l.front ++ fs) in
    let skip : length fs ≡ end - start = omega (arith, length-append l.front fs, l.at) in
    let behind : drop start text ≡ fs ++ c ∷ (near ++ l.far) =
    ap (drop start) (mark.split ∙ append_assoc l.front fs (c ∷ (near ++ l.far))) ∙ drop_at l.front (fs ++ c ∷ (near ++ l.far)) start (sym l.at) in
    let part : between text start end ≡ fs = ap (take (end - start)) behind ∙ take_at fs (c ∷ (near ++ l.far)) (end - start) skip in
    let here = line_is (slice_get (lines_of text) at.line) start end l.is (IsMark-end text at.line (l.front ++ fs) c (near ++ l.far) mark) in
    e ∙ ap (λ t. ok_or (option_map (λ k. start + k) (along u t at.character)) SplitsCharacter) (sym part)
    ∙ ap (λ o. offset_at text u o at.character) (sym here)

-- the first character of a line is at its start
pub offset_first : (u : TextUnit) (text : List ℕ) (at : Position) (x : NextLine) → IsNextLine text at.line x → at.character ≡ 0
    → Ok x.start.scalars ≡ offset_of text u at
unfolding offset_of
offset_first u text at x n e =
    let w = map_some start_of (slice_get (lines_of text) at.line) x.start.scalars n.is in
    let same : x.start.scalars ≡ w.0.start + 0 = omega (arith, w.2) in
    rw (w.1, e, along_none u (between text w.0.start w.0.end)) (ap (λ k. Ok k) same)

-- the rest fits where the text does
pub ahead_fits : (text : List ℕ) (n : ℕ) (x : NextLine) (fs rs : List ℕ) (e : Point) → IsNextLine text n x → chars x.rest.now ≡ fs ++ rs → IsTextEnd Utf8 text e
    → x.start.units + width Utf8 fs ≤ e.units
ahead_fits text n x fs rs e l cut end = omega (arith, width-append Utf8, ap (width Utf8) l.split, ap (width Utf8) cut)

pub first_ahead : (text : List ℕ) (n : ℕ) (x : NextLine) → n ≡ 0 → x.start ≡ record { scalars = 0; units = 0 } → chars x.rest.now ≡ [] → IsNextLine text n x
first_ahead text n x e s r = record {
  front = [];
  far = text;
  split = ap (λ t. t ++ text) (sym r);
  at = ap (λ (p : Point). p.scalars) s;
  units = ap (λ (p : Point). p.units) s;
  count = sym e;
  apart = refl;
  is = ap (λ k. option_map start_of (slice_get (lines_of text) k)) e ∙ first_start text ∙ ap (λ (p : Point). Some p.scalars) (sym s);
}

-- how far the line after a mark starts after the mark
ahead_by : (u v : TextUnit) (text : List ℕ) (n : ℕ) (m : LineMark) (p : Point) (h : IsMarkAt u text n m) → IsLineStart v text (n + 1) p
    → p.scalars ≡ m.at.scalars + (1 + one_if ((h.c == cr) && begins_lf (h.near ++ h.far)))
ahead_by u v text n m p h s =
    let b : Bool = (h.c == cr) && begins_lf (h.near ++ h.far) in
    rw h.at (same_some (sym s.is ∙ IsMark-next text n h.front h.c (h.near ++ h.far) h.mark) ∙ cond_by b (length h.front))

-- the line after a mark
pub line_ahead : (text : List ℕ) (n : ℕ) (m : LineMark) (x : NextLine) → IsMarkAt Utf8 text n m → IsLineStart Utf8 text (n + 1) x.start
    → IsRestBehind (chars m.rest.now) (x.start.scalars - m.at.scalars) (chars x.rest.now) → IsNextLine text (n + 1) x
line_ahead text n m x h s r =
    let b : Bool = (h.c == cr) && begins_lf (h.near ++ h.far) in
    let e = is_ending (ends_cr false h.front) h.c (h.near ++ h.far) b h.mark.is refl in
    let front = h.front ++ e.ending in
    let by = ahead_by Utf8 Utf8 text n m x.start h s in
    let k = x.start.scalars - m.at.scalars in
    let skip : length e.ending ≡ k = omega (arith, by, e.len) in
    let whole : text ≡ front ++ e.back = rw (e.split, ← append_assoc h.front e.ending e.back) at h.mark.split in
    let f = r.far h.far in
    let behind_is : e.back ≡ chars x.rest.now ++ f.0 = sym (drop_at e.ending e.back k skip) ∙ rw (h.rest, e.split) at f.1 in
    let len : x.start.scalars ≡ length front = omega (arith, by, h.at, e.len, length-append h.front e.ending) in
    record {
      front = front;
      far = f.0;
      split = rw behind_is at whole;
      at = len;
      units = s.point.units ∙ ap (width Utf8) (ap (take x.start.scalars) whole ∙ take_at front e.back x.start.scalars (sym len));
      count = omega (arith, marks-append false h.front e.ending, h.mark.count, e.one);
      apart = rw (← behind_is, ends_cr-append false h.front e.ending) e.apart;
      is = s.is;
    }

pub rest_some : (cs front rest : List ℕ) (n : ℕ) → IsScalarCut cs n front rest → IsRestBehind cs n rest
rest_some cs front rest n k =
    record { far = λ more. (more, ap (λ t. drop n (t ++ more)) k.split ∙ ap (drop n) (append_assoc front rest more) ∙ drop_at front (rest ++ more) n k.count) }

pub rest_none : (cs rest : List ℕ) (n : ℕ) → rest ≡ [] → IsRestBehind cs n rest
rest_none cs rest n e = record { far = λ more. (drop n (cs ++ more), rw e refl) }

-- the line that comes next, by its two ends
pub line_found : (text : List ℕ) (n : ℕ) (x : NextLine) (m : LineMark) → IsNextLine text n x → IsMarkAt Utf8 text n m
    → slice_get (lines_of text) n ≡ Some (record { start = x.start.scalars; end = m.at.scalars })
line_found text n x m l h = line_is (slice_get (lines_of text) n) x.start.scalars m.at.scalars l.is
    (IsMark-end text n h.front h.c (h.near ++ h.far) h.mark ∙ ap Some (sym h.at))

-- the last line
pub last_found : (text : List ℕ) (n : ℕ) (x : NextLine) (e : Point) → IsNextLine text n x → marks false text ≤ n → IsTextEnd Utf8 text e
    → slice_get (lines_of text) n ≡ Some (record { start = x.start.scalars; end = e.scalars })
last_found text n x e l h end =
    let number : n ≡ marks false text = omega (arith, ap (marks false) l.split, marks-append false l.front (chars x.rest.now ++ l.far)) in
    line_is (slice_get (lines_of text) n) x.start.scalars e.scalars l.is (rw number (last_end text ∙ ap Some (sym end.scalars)))

pub none_ahead : (text : List ℕ) (n : ℕ) → marks false text ≤ n → length (lines_of text) ≤ n + 1
none_ahead text n h = omega (arith, h, line_count text)

pub ahead_room : (u v : TextUnit) (text : List ℕ) (n : ℕ) (m : LineMark) (p : Point) → IsMarkAt u text n m → IsLineStart v text (n + 1) p
    → m.at.scalars ≤ p.scalars
ahead_room u v text n m p h s = omega (arith, ahead_by u v text n m p h s)

-- the start of the line after a mark, counted in the mark's unit
pub start_units : (u v : TextUnit) (text : List ℕ) (n : ℕ) (m : LineMark) (p : Point) → IsMarkAt u text n m → IsLineStart v text (n + 1) p
    → IsLineStart u text (n + 1) (record { scalars = p.scalars; units = m.at.units + (p.scalars - m.at.scalars) })
start_units u v text n m p h s =
    let k = one_if ((h.c == cr) && begins_lf (h.near ++ h.far)) in
    let less : m.at.scalars + (1 + k) - m.at.scalars ≡ 1 + k = omega arith in
    rw (ahead_by u v text n m p h s, less) (line_start_behind u text n m h k refl)

pub is_next : (text : List ℕ) (n : ℕ) (o : Option NextLine) (x : NextLine) → IsAhead text n o → o ≡ Some x → IsNextLine text n x
is_next text n o x a e = rw e at a

-- a line that comes next is one of the lines
pub ahead_number : (text : List ℕ) (n : ℕ) (o : Option NextLine) (x : NextLine) → IsAhead text n o → o ≡ Some x → n < length (lines_of text)
ahead_number text n o x a e =
    let l = is_next text n o x a e in
    omega (arith, line_count text, ap (marks false) l.split, marks-append false l.front (chars x.rest.now ++ l.far))

pub next_at : (text : List ℕ) (n k : ℕ) (x : NextLine) → IsNextLine text n x → n ≡ k → IsNextLine text k x
next_at text n k x l e = rw e at l
