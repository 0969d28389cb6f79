-- Fronts of a document's text by units.
use Rattle.std.proofs.Common.{ℕ, refl, ◌≡◌, ap, subst, ◌∙◌, ◌+◌, ◌-◌, ◌<◌, ◌≤◌, ◌⊎◌, inl, inr, true, false, nat_le, List, length-append, take}
use Rattle.position_map.proofs.Words.{[], ◌++◌, length, append-nil, arith, Some, None, Result, Ok, Err, option_map, ok_or, slice_get, take_at, slice_get_past}
use Rattle.position_map.proofs.Words.{nat_tests, Axis, measure, Sum, PosFault, OutOfRange, SplitsCharacter, Point, Position, TextUnit, Utf8, Utf16, Utf32}
use Rattle.position_map.proofs.Words.{IsAlongFront, IsTextFront, IsFrontOf, lines_of, IsLocated, reach, axis_of, sum_in, IsLineStart, IsLineEnd, IsTextEnd}
use Rattle.position_map.proofs.{Words.along, Words.offset_of, Words.converted, Words.width, LineMarks.line_is, LineMarks.ascending, LineMarks.ascending-line}
use Rattle.position_map.proofs.Alongs.{along-append, along_within, along_line, past_line, line_width}
use Rattle.position_map.proofs.{Pointing.sum_width, Pointing.regroup, Widths.width-append, Widths.width-take_le, Widths.width-scalars}

low_of : (u : TextUnit) (n : ℕ) (s : Sum) → measure (axis_of u) s ≤ n → sum_in u s ≤ n
low_of Utf8 n s h = h
low_of Utf16 n s h = h
low_of Utf32 n s h = h

high_of : (u : TextUnit) (n : ℕ) (cs : List ℕ) → n < reach (axis_of u) cs → n < width u cs
high_of Utf8 n cs h = h
high_of Utf16 n cs h = h
high_of Utf32 n cs h = omega (arith, h, width-scalars cs)

-- a part of the text that is located along the axis of a unit
module _ (u : TextUnit) (a : Axis) (text here : List ℕ) (s : Sum) (n w : ℕ) (ea : a ≡ axis_of u) (ew : w ≡ sum_in u s) (l : IsLocated a n text s here) where
  -- the text before the part takes no more units than are sought
  at : n ≡ width u l.front + (n - w)
  at = omega (arith, sum_width u l.front l.items s l.sum, low_of u n s (subst (λ b. measure b s ≤ n) ea l.low), ew)

  -- the target is inside the part, or the part is the last
  inside : (l.back ≡ []) ⊎ (n - w < width u here)
  inside =
      elim l.high [
        | inl e ↦ inl e
        | inr h ↦ inr (let g = high_of u n (l.front ++ here) (rw ea at h) in omega (arith, g, width-append u l.front here, at))
      ]

  -- a search in the part is one in the text
  part_along : along u text n ≡ option_map (λ k. s.scalars + k) (along u here (n - w))
  part_along =
      let rest : along u (here ++ l.back) (n - w) ≡ along u here (n - w) = elim inside [
        | inl e ↦ rw (e, append-nil) refl
        | inr g ↦ along_within u here l.back (n - w) g
      ] in
      ap (λ t. along u t n) l.split ∙ ap (along u (l.front ++ (here ++ l.back))) at ∙ along-append u l.front (here ++ l.back) (n - w)
      ∙ rw (rest, l.sum.scalars) refl

  pub front_found : (front : List ℕ) → IsAlongFront u here (n - w) front → IsFrontOf u text n s front
  front_found front f = record {
    is = record { front = l.front; items = l.items; back = f.back ++ l.back; split = regroup l.front front f.back l.back l.split f.split; sum = l.sum };
    along = rw (part_along, f.along) refl;
  }

  pub front_inside : along u here (n - w) ≡ None → along u text n ≡ None
  front_inside e = rw (part_along, e) refl

  pub front_not_past : width u here < n - w → n ≤ width u text → ⊥
  front_not_past h all =
      elim inside [
        | inl e ↦ omega (arith, h, all, at, ap (width u) (rw (e, append-nil) at l.split), width-append u l.front here)
        | inr g ↦ omega (arith, g, h)
      ]

-- a front fits where the text does
pub front_fits : (u : TextUnit) (text part : List ℕ) (s : Sum) (e : Point) → IsTextFront text s part → IsTextEnd u text e
    → sum_in u s + width u part ≤ e.units
front_fits u text part s e f end = omega (arith, ap (width u) f.split, width-append u, sum_width u f.front f.items s f.sum)

-- the units of a front
pub front_units : (u : TextUnit) (text part : List ℕ) (s : Sum) → IsTextFront text s part
    → sum_in u s + width u part ≡ width u (take (s.scalars + length part) text)
front_units u text part s f =
    let at : length (f.front ++ part) ≡ s.scalars + length part = omega (arith, length-append f.front part, f.sum.scalars) in
    rw (f.split, take_at (f.front ++ part) f.back (s.scalars + length part) at)
    (omega (arith, sum_width u f.front f.items s f.sum, width-append u f.front part))

pub convert_found : (text part : List ℕ) (from to : TextUnit) (n v w : ℕ) (s : Sum) → IsFrontOf from text n s part → n ≤ width from text
    → v ≡ sum_in to s → w ≡ width to part → Ok (v + w) ≡ converted text from to n
unfolding converted
convert_found text part from to n v w s f h ev ew =
    let t : nat_le n (width from text) ≡ true = grind (arith, nat_tests) in
    rw (t, f.along, ev, ew, front_units to text part s f.is) refl

pub convert_split : (text : List ℕ) (from to : TextUnit) (n : ℕ) (e : PosFault) → along from text n ≡ None → e ≡ SplitsCharacter
    → n ≤ width from text → Err e ≡ converted text from to n
unfolding converted
convert_split text from to n e a is h =
    let t : nat_le n (width from text) ≡ true = grind (arith, nat_tests) in
    rw (t, a, is) refl

pub convert_past : (text : List ℕ) (from to : TextUnit) (n : ℕ) → width from text < n → Err OutOfRange ≡ converted text from to n
unfolding converted
convert_past text from to n h =
    let t : nat_le n (width from text) ≡ false = grind (arith, nat_tests) in
    rw t refl

-- a line, by the points where it starts and ends
module _ (u : TextUnit) (text : List ℕ) (line : ℕ) (p q : Point) (s : IsLineStart u text line p) (e : IsLineEnd u text line q) where
  here : slice_get (lines_of text) line ≡ Some (record { start = p.scalars; end = q.scalars })
  here = line_is (slice_get (lines_of text) line) p.scalars q.scalars s.is e.is

  in_order : p.scalars ≤ q.scalars
  in_order = (ascending-line 0 0 (length text) (lines_of text) line _ (ascending text) here).1

  pub units_before_end : p.units ≤ q.units
  units_before_end = omega (arith, s.point.units, e.point.units, line_width u text p.scalars q.scalars in_order)

pub offset_found : (u : TextUnit) (text : List ℕ) (at : Position) (p q : Point) (r : Result ℕ PosFault) → IsLineStart u text at.line p
    → IsLineEnd u text at.line q → at.character < q.units - p.units
    → r ≡ ok_or (along u text (p.units + at.character)) SplitsCharacter → r ≡ offset_of text u at
unfolding offset_of
offset_found u text at p q r s e h f =
    let far : width u (take p.scalars text) + at.character < width u (take q.scalars text) = omega (arith, s.point.units, e.point.units) in
    let along = along_line u text p.scalars q.scalars at.character (in_order u text at.line p q s e) e.point.within far in
    f ∙ rw (here u text at.line p q s e, s.point.units, along) refl

-- where a character within the line's length is sought
pub offset_room : (u : TextUnit) (text : List ℕ) (line n : ℕ) (p q : Point) → IsLineEnd u text line q → n < q.units - p.units → p.units + n ≤ width u text
offset_room u text line n p q e h = omega (arith, h, e.point.units, width-take_le u text q.scalars)

pub offset_past : (u : TextUnit) (text : List ℕ) (at : Position) (p q : Point) → IsLineStart u text at.line p → IsLineEnd u text at.line q
    → q.units - p.units ≤ at.character → Ok q.scalars ≡ offset_of text u at
unfolding offset_of
offset_past u text at p q s e l =
    let far : width u (take q.scalars text) ≤ width u (take p.scalars text) + at.character = omega (arith, s.point.units, e.point.units) in
    rw (here u text at.line p q s e, past_line u text p.scalars q.scalars at.character (in_order u text at.line p q s e) e.point.within far) refl

pub offset_none : (u : TextUnit) (text : List ℕ) (at : Position) (q : Point) → length (lines_of text) ≤ at.line → IsTextEnd u text q
    → Ok q.scalars ≡ offset_of text u at
unfolding offset_of
offset_none u text at q h e = rw (slice_get_past (lines_of text) at.line h) (ap Ok e.scalars)

-- the offset of a place along a line
pub offset_of_place : (u : TextUnit) (line : List ℕ) (n start k count : ℕ) → count ≡ k → along u line n ≡ Some k
    → Ok (start + count) ≡ ok_or (option_map (λ j. start + j) (along u line n)) SplitsCharacter
offset_of_place u line n start k count e a = rw (a, e) refl
