-- The line of an offset.
use Rattle.std.proofs.Common.{ℕ, ◌≡◌, refl, sym, ap, ◌∙◌, ◌+◌, ◌-◌, ◌<◌, ◌≤◌, inl, inr, min, Bool, true, false, ◌&&◌, nat_le, length-append, take, append_assoc}
use Rattle.position_map.proofs.Words.{List, [], ◌∷◌, ◌++◌, length, drop, arith, Some, Ok, Err, same_some, map_some, and_parts, option_map, slice_get, chars}
use Rattle.position_map.proofs.Words.{take_at, drop_at, nat_tests, cr, is_mark, one_if, marks, ends_cr, Scalar, Sum, begins_lf, OutOfRange, OnLine, Point}
use Rattle.position_map.proofs.Words.{TextCut, TextUnit, IsScalarCut, IsCutAt, IsOnLine, LineSpan, lines_of, IsLocated, sum_in, IsLineStart, start_of, end_of}
use Rattle.position_map.proofs.{Words.character_at, Words.position_of, Words.width, Words.append-nil, Pointing.sum_width, Pointing.regroup, Pointing.line_feed}
use Rattle.position_map.proofs.{Widths.width-append, Widths.width-ascii, LineMarks.ascending-line, Alongs.line_width}
use Rattle.position_map.proofs.LineMarks.{marks-append, ends_cr-append, IsMark-end, line_count, lines_begun, begun, line_here, last_cr, ascending}
use Rattle.lemmas.proofs.Recursion.{counts-few}

pub mark-le : (f : Bool) (c : ℕ) → one_if (is_mark f c) ≤ 1
mark-le f c = grind (arith, nat_tests)

pub on_here : (u : TextUnit) (text a b : List ℕ) (offset : ℕ) → text ≡ a ++ b → offset ≡ length a → (ends_cr false a && begins_lf b) ≡ false
    → IsOnLine u text offset (record { line = marks false a; units = width u a })
on_here u text a b offset split at flag =
    let here : (l : LineSpan) → slice_get (lines_of text) (marks false a) ≡ Some l → (l.start ≤ length a) × (length a ≤ l.end) =
    λ l e. line_here a b flag l (rw split at e) in
    record {
      line = rw (split, at) (omega (arith, lines_begun a b, ap one_if flag));
      has = omega (arith, line_count text, ap (marks false) split, marks-append false a b);
      within = λ l e. let w = here l e in omega (arith, w.0, w.1, at);
      units = λ l e. let w = here l e in
          let first : length a ≡ min offset l.end = omega (arith, w.1, at) in
          ap (width u) (sym (ap (take (min offset l.end)) split ∙ take_at a b (min offset l.end) first));
    }

-- between CR and LF
on_split : (u : TextUnit) (text a b : List ℕ) (offset : ℕ) → text ≡ a ++ b → offset ≡ length a → (ends_cr false a && begins_lf b) ≡ true
    → (1 ≤ marks false a) × (1 ≤ width u a) × IsOnLine u text offset (record { line = marks false a - 1; units = width u a - 1 })
on_split u text a b offset split at flag =
    let w = last_cr a (and_parts (ends_cr false a) (begins_lf b) flag).0 in
    let start = w.0 in
    let whole : text ≡ start ++ cr ∷ b = rw (w.1, append_assoc start (cr ∷ []) b) at split in
    let marks_are : marks false a ≡ marks false start + 1 = ap (marks false) w.1 ∙ marks-append false start (cr ∷ []) ∙ omega arith in
    let wide : width u a ≡ width u start + 1 = omega (arith, ap (width u) w.1, width-append u start (cr ∷ []), width-ascii u cr (omega arith)) in
    let len : length a ≡ length start + 1 = ap length w.1 ∙ length-append start (cr ∷ []) in
    let count : begun offset (lines_of text) ≡ marks false a = rw (split, at) (omega (arith, lines_begun a b, ap one_if flag)) in
    let number : marks false a - 1 ≡ marks false start = omega (arith, marks_are) in
    let ends : (l : LineSpan) → slice_get (lines_of text) (marks false a - 1) ≡ Some l → l.end ≡ length start =
    λ l e. same_some (sym (ap (option_map end_of) e) ∙ ap (λ k. option_map end_of (slice_get (lines_of text) k)) number
    ∙ IsMark-end text (marks false start) start cr b (record { split = whole; count = refl; is = refl })) in (
      omega (arith, marks_are),
      omega (arith, wide),
      record {
        line = omega (arith, count);
        has = omega (arith, line_count text, ap (marks false) split, marks-append false a b, marks_are);
        within =
            λ l e. omega (arith, ends l e, (ascending-line 0 0 (length text) (lines_of text) (marks false a - 1) l (ascending text) e).1, at, len);
        units = λ l e.
            let first : length start ≡ min offset l.end = omega (arith, ends l e, at, len) in
            omega (arith, wide, ap (width u) (ap (take (min offset l.end)) whole ∙ take_at start (cr ∷ b) (min offset l.end) first));
      },
    )

-- the piece of an offset, cut there
pub cut_found : (text : List ℕ) (offset : ℕ) (x : TextCut) (here : List ℕ) → IsLocated Scalar offset text x.before here
    → IsScalarCut here (offset - x.before.scalars) (chars x.front.now) (chars x.rest.now) → x.scalars ≡ offset - x.before.scalars → IsCutAt text offset x
cut_found text offset x here l k n = record {
  is = record {
    front = l.front;
    items = l.items;
    back = chars x.rest.now ++ l.back;
    split = regroup l.front (chars x.front.now) (chars x.rest.now) l.back l.split k.split;
    sum = l.sum;
  };
  at = omega (arith, l.low, k.count);
  scalars = n ∙ sym k.count;
  next = line_feed text offset x.before here (chars x.front.now) (chars x.rest.now) l k;
}

-- the text before such a cut, and the place there
module _ (text : List ℕ) (offset : ℕ) (x : TextCut) (k : IsCutAt text offset x) where
  abbrev part : List ℕ
  part = chars x.front.now

  abbrev front : List ℕ
  front = k.is.front ++ part

  cut-at : offset ≡ length front
  cut-at = omega (arith, k.at, k.is.sum.scalars, length-append k.is.front part)

  pub cut-marks : x.before.marks + marks x.before.cr_last part ≡ marks false front
  cut-marks = omega (arith, k.is.sum.marks, marks-append false k.is.front part, ap (λ f. marks f part) k.is.sum.cr_last)

  pub cut-units : (u : TextUnit) → sum_in u x.before + width u part ≡ width u front
  cut-units u = omega (arith, sum_width u k.is.front k.is.items x.before k.is.sum, width-append u k.is.front part)

  -- the marks in front fit where the text does
  pub marks_fit : (m : ℕ) → m ≡ marks x.before.cr_last part → x.before.marks + m ≤ length text
  marks_fit m em =
      let few = counts-few marks _ _ (λ _. refl) (λ _ _ _. refl) mark-le false front in
      omega (arith, cut-marks, em, few, ap length k.is.split, length-append front k.is.back)

  module _ (b : Bool) (flag : b ≡ (ends_cr x.before.cr_last part && begins_lf (chars x.rest.now))) where
    pub cut-flag : (ends_cr false front && begins_lf k.is.back) ≡ b
    cut-flag =
        let behind : drop offset text ≡ k.is.back = ap (drop offset) k.is.split ∙ drop_at front k.is.back offset (sym cut-at) in
        sym (flag ∙ rw (k.next, behind, k.is.sum.cr_last, ends_cr-append false k.is.front part) refl)

    pub cut-on_line : (u : TextUnit) → b ≡ false → IsOnLine u text offset (record { line = marks false front; units = width u front })
    cut-on_line u off = on_here u text front k.is.back offset k.is.split cut-at (cut-flag ∙ off)

    module _ (u : TextUnit) (m w v : ℕ) (em : m ≡ marks x.before.cr_last part) (ew : w ≡ sum_in u x.before) (ev : v ≡ width u part) where
      pub placed_here : b ≡ false → IsOnLine u text offset (record { line = x.before.marks + m; units = w + v })
      placed_here off = rw (em, ew, ev, cut-marks, cut-units u) (cut-on_line u off)

      pub placed_split : b ≡ true
          → (1 ≤ x.before.marks + m) × (1 ≤ w + v) × IsOnLine u text offset (record { line = x.before.marks + m - 1; units = w + v - 1 })
      placed_split on = rw (em, ew, ev, cut-marks, cut-units u) (on_split u text front k.is.back offset k.is.split cut-at (cut-flag ∙ on))

pub none_past : (text : List ℕ) (offset : ℕ) (s : Sum) (here : List ℕ) → IsLocated Scalar offset text s here
    → length here < offset - s.scalars → offset ≤ length text → ⊥
none_past text offset s here l h all =
    elim l.high [
      | inl e ↦ omega (arith, ap length (rw (e, append-nil) at l.split), length-append l.front here)
      | inr g ↦ omega (arith, g, length-append l.front here)
    ]

-- the units on the line
record IsStarted (u : TextUnit) (text : List ℕ) (offset : ℕ) (p : OnLine) (q : Point) : Type 0 where
  room : q.units ≤ p.units
  is : p.units - q.units ≡ character_at text u (slice_get (lines_of text) p.line) offset

started : (u : TextUnit) (text : List ℕ) (offset : ℕ) (p : OnLine) (q : Point) → IsOnLine u text offset p → IsLineStart u text p.line q
    → IsStarted u text offset p q
started u text offset p q o s =
    let w = map_some start_of (slice_get (lines_of text) p.line) q.scalars s.is in
    let l = w.0 in
    let units = o.units l w.1 in
    let start : q.units ≡ width u (take l.start text) = rw w.2 s.point.units in
    let both = line_width u text l.start (min offset l.end) (o.within l w.1) in
    let here = ap (λ v. character_at text u v offset) w.1 in
    record { room = omega (arith, units, start, both); is = omega (arith, units, start, both, here) }

pub units_room : (u : TextUnit) (text : List ℕ) (offset : ℕ) (p : OnLine) (q : Point) → IsOnLine u text offset p
    → IsLineStart u text p.line q → q.units ≤ p.units
units_room u text offset p q o s = (started u text offset p q o s).room

pub position_found : (u : TextUnit) (text : List ℕ) (offset : ℕ) (p : OnLine) (q : Point) → IsOnLine u text offset p
    → IsLineStart u text p.line q → offset ≤ length text → Ok (record { line = p.line; character = p.units - q.units }) ≡ position_of text u offset
unfolding position_of
position_found u text offset p q o s h =
    let t : nat_le offset (length text) ≡ true = grind (arith, nat_tests) in
    rw (t, ← o.line, (started u text offset p q o s).is) refl

pub position_past : (u : TextUnit) (text : List ℕ) (offset : ℕ) → length text < offset → Err OutOfRange ≡ position_of text u offset
unfolding position_of
position_past u text offset h =
    let t : nat_le offset (length text) ≡ false = grind (arith, nat_tests) in
    rw t refl
