-- Points, marks and lines of a text.
use Rattle.std.proofs.Common.{ℕ, ◌≡◌, refl, sym, ap, ◌∙◌, ◌+◌, ◌-◌, ◌<◌, ◌≤◌, ◌⊎◌, inl, inr, Bool, true, false, cond, ◌==◌, ◌&&◌, List, [], ◌∷◌, ◌++◌, length}
use Rattle.std.proofs.{Common.length-append, Common.drop, Common.append_assoc, Common.append-nil, Common.arith, Math.Seq.drop-append-add, Math.Bool.and-false}
use Rattle.position_map.proofs.Words.{Some, Axis, by_test, map_some, option_map, slice_get, chars, take_at, drop_at, take_all, slice_get_within, nat_tests, cr}
use Rattle.position_map.proofs.Words.{lf, is_mark, one_if, marks, ends_cr, Scalar, by_mark, Ended, Sum, IsSumOf, begins_lf, LineMark, Point, TextUnit, Utf8}
use Rattle.position_map.proofs.Words.{Utf16, Utf32, IsScalarCut, ending_of, lines_of, IsLocated, sum_in, IsMarkAt, IsMarkCut, IsLineStart, IsLineEnd, start_of}
use Rattle.position_map.{proofs.Words.IsPoint, proofs.Words.IsTextEnd, proofs.Words.IsBehind, proofs.Words.width, specs.declared.cuts.Ending.TheVariants.Open}
use mir.Val.{bool_byte}
use Rattle.position_map.proofs.{Bytes.mark_low, Widths.width-append, Widths.width-take_le, Widths.width-scalars, Widths.width-ascii}
use Rattle.position_map.proofs.LineMarks.{marks-append, ends_cr-append, IsMark-end, IsMark-next, last_end, first_start, line_count}

pub end-scalars : (u : TextUnit) (text : List ℕ) (n : ℕ) → u ≡ Utf32 → n ≡ length text → IsTextEnd u text (record { scalars = n; units = n })
end-scalars u text n e h = record { scalars = h; units = h ∙ sym (width-scalars text) ∙ ap (λ v. width v text) (sym e) }

pub sum_width : (u : TextUnit) (cs : List ℕ) (is : List Ended) (s : Sum) → IsSumOf cs is s → sum_in u s ≡ width u cs
sum_width Utf8 cs is s h = h.utf8
sum_width Utf16 cs is s h = h.utf16
sum_width Utf32 cs is s h = h.scalars ∙ sym (width-scalars cs)

pub point-from : (u : TextUnit) (text a b : List ℕ) (p : Point) → text ≡ a ++ b → p.scalars ≡ length a → p.units ≡ width u a → IsPoint u text p
point-from u text a b p split n x =
    record { within = omega (arith, ap length split, length-append a b); units = rw (split, take_at a b p.scalars (sym n)) x }

-- a part of a text, cut in two
pub regroup : {text part : List ℕ} (a b c d : List ℕ) → text ≡ a ++ (part ++ d) → part ≡ b ++ c → text ≡ (a ++ b) ++ (c ++ d)
regroup a b c d e cut = e ∙ rw (cut, append_assoc b c d) (sym (append_assoc a b (c ++ d)))

-- a front of a part of the text fits where the text does
pub part_fits : (u : TextUnit) (axis : Axis) (target : ℕ) (text here front rest : List ℕ) (s : Sum) (e : Point) → IsLocated axis target text s here
    → here ≡ front ++ rest → IsTextEnd u text e → sum_in u s + width u front ≤ e.units
part_fits u axis target text here front rest s e l cut end =
    omega (arith, width-append u, ap (width u) l.split, ap (width u) cut, sum_width u l.front l.items s l.sum)

pub mark_found : (u : TextUnit) (text : List ℕ) (n : ℕ) (s : Sum) (here fs rs : List ℕ) (units : ℕ) (m : LineMark)
    → IsLocated by_mark n text s here → IsMarkCut s.cr_last here (n - s.marks) fs rs
    → units ≡ sum_in u s → IsBehind u s.scalars units fs m.at → chars m.rest.now ≡ rs → IsMarkAt u text n m
mark_found u text n s here fs [] units m l k same p r = let none = k.is in cc
mark_found u text n s here fs (c ∷ near) units m l k same p r =
    let size = length-append l.front fs in
    let split : text ≡ (l.front ++ fs) ++ c ∷ (near ++ l.back) = regroup l.front fs (c ∷ near) l.back l.split k.split in
    record {
      front = l.front ++ fs;
      c = c;
      near = near;
      far = l.back;
      mark = record {
        split = split;
        count = omega (arith, marks-append false l.front fs, ap (λ b. marks b fs) l.sum.cr_last, l.low);
        is = rw (ends_cr-append false l.front fs, ← l.sum.cr_last) k.is;
      };
      at = omega (arith, size);
      point = point-from u text (l.front ++ fs) (c ∷ (near ++ l.back)) m.at split (omega (arith, size))
          (omega (arith, sum_width u l.front l.items s l.sum, width-append u l.front fs));
      rest = r;
    }

pub no_mark_left : (text : List ℕ) (n : ℕ) (s : Sum) (here : List ℕ) → IsLocated by_mark n text s here → marks s.cr_last here ≤ n - s.marks
    → marks false text ≤ n
no_mark_left text n s here l h =
    let both : marks false (l.front ++ here) ≡ marks false l.front + marks s.cr_last here = rw l.sum.cr_last (marks-append false l.front here) in
    elim l.high [
      | inl e ↦ omega (arith, both, l.low, ap (marks false) (rw (e, append-nil) at l.split))
      | inr g ↦ absurd (omega (arith, both, l.low, g))
    ]

pub cond_by : (b : Bool) (a : ℕ) → cond b (a + 2) (a + 1) ≡ a + (1 + one_if b)
cond_by true a = omega arith
cond_by false a = omega arith

begins-append : (xs ys : List ℕ) → (ys ≡ []) ⊎ (0 < length xs) → begins_lf (xs ++ ys) ≡ begins_lf xs
begins-append [] ys h = elim h [ inl e ↦ ap begins_lf e | inr g ↦ absurd (omega arith) ]
begins-append (x ∷ xs) ys h = refl

-- what follows a cut of the piece begins like what follows it in the text
pub line_feed : (text : List ℕ) (n : ℕ) (s : Sum) (here front rest : List ℕ) → IsLocated Scalar n text s here
    → IsScalarCut here (n - s.scalars) front rest → begins_lf rest ≡ begins_lf (drop n text)
line_feed text n s here front rest l k =
    let at : length (l.front ++ front) ≡ n = omega (arith, length-append l.front front, l.low) in
    let behind : drop n text ≡ rest ++ l.back =
    ap (drop n) (regroup l.front front rest l.back l.split k.split) ∙ drop_at (l.front ++ front) (rest ++ l.back) n at in
    rw behind (sym (begins-append rest l.back (elim l.high [
      | inl b ↦ inl b
      | inr g ↦ inr (omega (arith, g, at, length-append {A = ℕ}, ap length k.split))
    ])))

-- a line end: its code points, and what follows
pub record IsEnding (g : Bool) (cs : List ℕ) (n : ℕ) : Type 0 where
  pub ending : List ℕ
  pub back : List ℕ
  pub split : cs ≡ ending ++ back
  pub len : length ending ≡ n
  pub wide : (u : TextUnit) → width u ending ≡ n
  pub one : marks g ending ≡ 1
  pub apart : (ends_cr g ending && begins_lf back) ≡ false

pub is_ending : (g : Bool) (c : ℕ) (rest : List ℕ) (b : Bool) → is_mark g c ≡ true → b ≡ ((c == cr) && begins_lf rest) → IsEnding g (c ∷ rest) (1 + one_if b)
is_ending g c rest false h e =
    record {
      ending = c ∷ [];
      back = rest;
      split = refl;
      len = refl;
      wide = λ u. omega (arith, width-ascii u c (mark_low g c h));
      one = omega (arith, ap one_if h);
      apart = sym e;
    }
is_ending g c [] true h e = let w = e ∙ and-false (c == cr) in cc
is_ending g c (d ∷ rest) true h e =
    let c_is : c ≡ 13 = grind (arith, nat_tests) in
    let d_is : d ≡ 10 = grind (arith, nat_tests) in
    record {
      ending = c ∷ d ∷ [];
      back = rest;
      split = refl;
      len = refl;
      wide = λ u. omega (arith, width-ascii u c (omega arith), width-ascii u d (omega arith));
      one = rw (h, c_is, d_is) refl;
      apart = rw d_is refl;
    }

-- the start of the line after a mark
pub line_start_behind : (u : TextUnit) (text : List ℕ) (n : ℕ) (m : LineMark) (h : IsMarkAt u text n m) (k : ℕ)
    → k ≡ one_if ((h.c == cr) && begins_lf (h.near ++ h.far))
    → IsLineStart u text (n + 1) (record { scalars = m.at.scalars + (1 + k); units = m.at.units + (1 + k) })
line_start_behind u text n m h k e =
    let b : Bool = (h.c == cr) && begins_lf (h.near ++ h.far) in
    let w = is_ending (ends_cr false h.front) h.c (h.near ++ h.far) b h.mark.is refl in
    let wide : m.at.units ≡ width u h.front = rw (h.mark.split, take_at h.front (h.c ∷ (h.near ++ h.far)) m.at.scalars (sym h.at)) at h.point.units in
    record {
      point = point-from u text (h.front ++ w.ending) w.back _ (rw (w.split, ← append_assoc h.front w.ending w.back) at h.mark.split)
          (omega (arith, e, h.at, w.len, length-append h.front w.ending)) (omega (arith, e, wide, w.wide u, width-append u h.front w.ending));
      is = IsMark-next text n h.front h.c (h.near ++ h.far) h.mark ∙ rw (cond_by b) (ap Some (omega (arith, e, h.at)));
    }

-- a point is within the text's end
pub point-within : (u : TextUnit) (text : List ℕ) (p e : Point) → IsPoint u text p → IsTextEnd u text e → (p.scalars ≤ e.scalars) × (p.units ≤ e.units)
point-within u text p e x y = (omega (arith, x.within, y.scalars), omega (arith, x.units, y.units, width-take_le u text p.scalars))

-- the LF that may follow a line end that its piece leaves open
open_is_cr : (c : ℕ) (near : List ℕ) → ending_of (c ∷ near) ≡ Open → ((c == cr) ≡ true) × (near ≡ [])
open_is_cr c [] e = by_test (c == cr) (λ t. (t, refl)) (λ t. absurd (let e = rw t at e in cc))
open_is_cr c (d ∷ near) e =
    by_test (c == cr) (λ t. by_test (d == lf) (λ u. let e = rw (t, u) at e in cc) (λ u. let e = rw (t, u) at e in cc)) (λ t. let e = rw t at e in cc)

pub open_line_feed : (u : TextUnit) (text : List ℕ) (n : ℕ) (m : LineMark) (h : IsMarkAt u text n m) (b : Bool)
    → ending_of (chars m.rest.now) ≡ Open → b ≡ begins_lf (drop (m.at.scalars + 1) text) → b ≡ ((h.c == cr) && begins_lf (h.near ++ h.far))
open_line_feed u text n m h b o e =
    let behind : drop (m.at.scalars + 1) text ≡ h.near ++ h.far = rw (h.at, h.mark.split) (drop-append-add h.front (h.c ∷ (h.near ++ h.far)) 1) in
    rw ((open_is_cr h.c h.near (sym (ap ending_of h.rest) ∙ o)).0, ← behind) e

byte_one : (b : Bool) (k : ℕ) → k ≡ bool_byte b → k ≡ one_if b
byte_one true k e = e
byte_one false k e = e

pub behind_start : (u : TextUnit) (text : List ℕ) (n k : ℕ) (m : LineMark) (h : IsMarkAt u text n m) (b : Bool)
    → b ≡ ((h.c == cr) && begins_lf (h.near ++ h.far)) → k ≡ bool_byte b
    → IsLineStart u text (n + 1) (record { scalars = m.at.scalars + (1 + k); units = m.at.units + (1 + k) })
behind_start u text n k m h b is one = line_start_behind u text n m h k (byte_one b k one ∙ ap one_if is)

-- the first line starts with the text
pub first_line_start : (u : TextUnit) (text : List ℕ) (n : ℕ) → n ≡ 0 → IsLineStart u text n (record { scalars = 0; units = 0 })
first_line_start u text n e = record {
  point = record { within = omega arith; units = refl };
  is = ap (λ k. option_map start_of (slice_get (lines_of text) k)) e ∙ first_start text;
}

-- a mark ends its line
pub line_end_at : (u : TextUnit) (text : List ℕ) (n : ℕ) (m : LineMark) → IsMarkAt u text n m → IsLineEnd u text n m.at
line_end_at u text n m h = record {
  point = h.point;
  is = IsMark-end text n h.front h.c (h.near ++ h.far) h.mark ∙ ap Some (sym h.at);
}

-- the last line ends with the text
pub last_line_end : (u : TextUnit) (text : List ℕ) (n : ℕ) (p : Point) → IsTextEnd u text p → marks false text ≤ n
    → n < length (lines_of text) → IsLineEnd u text n p
last_line_end u text n p e h l =
    let same : n ≡ marks false text = omega (arith, line_count text) in
    record {
      point = record { within = omega (arith, e.scalars); units = rw (take_all p.scalars text (omega (arith, e.scalars))) e.units };
      is = rw same (last_end text ∙ ap Some (sym e.scalars));
    }

pub has_line : (u : TextUnit) (text : List ℕ) (n : ℕ) (p : Point) → IsLineStart u text n p → n < length (lines_of text)
has_line u text n p s = let w = map_some start_of (slice_get (lines_of text) n) p.scalars s.is in slice_get_within (lines_of text) n w.0 w.1

pub no_line_from : (text : List ℕ) (n : ℕ) → 0 < n → marks false text ≤ n - 1 → length (lines_of text) ≤ n
no_line_from text n h l = omega (arith, line_count text)
