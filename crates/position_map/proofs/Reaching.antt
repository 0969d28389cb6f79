-- Places of a text, each reached from one before.
use Rattle.position_map.proofs.Words.{error_if, [], ◌∷◌, ◌++◌, length, drop, arith, Some, Ok, chars, drop_at, lf, marks, ends_cr, begins_lf, Scalar, Sum, Point}
use Rattle.position_map.proofs.Words.{Position, OnLine, TextUnit, IsScalarCut, IsRestBehind, IsLastLine, IsOnLine, IsLocated, sum_in, IsLineStart, lines_of}
use Rattle.position_map.proofs.Words.{position_of, diagnostic_at, IsTextEnd, width, width_of, slice_get, Document, text_of, decoded, decoded_text, Item, One}
use Rattle.position_map.proofs.Words.{Two, Error, Placed, item_code_points, code_points, ErrorAt, errors_from, all_errors, none_some, same_some, ◌⊎◌, inl, inr}
use Rattle.std.proofs.Common.{ℕ, ◌≡◌, refl, sym, ap, ◌∙◌, zero, suc, ◌+◌, ◌-◌, ◌<◌, ◌≤◌, Bool, true, false, ◌==◌, ◌&&◌, length-append, append_assoc, List}
use Rattle.std.proofs.Math.Bool.{and-false}
use Rattle.position_map.{specs.declared.diagnostic.Diagnostic.Diagnostic, proofs.Pointing.sum_width, proofs.Pointing.regroup, proofs.Pointing.point-from}
use Rattle.position_map.{specs.declared.reach.Reached.Reached, proofs.OnLines.mark-le, proofs.OnLines.on_here, proofs.OnLines.position_found}
use Rattle.position_map.{specs.declared.reach.Stretch.Stretch, proofs.LastLines.IsBegun, proofs.LastLines.last_begins, proofs.NextLines.marks-flag_le}
use Rattle.position_map.{specs.Reaching.IsErrorIn, specs.Reaching.BeginsLine, specs.Reaching.IsReached, specs.Reaching.IsStretch, proofs.Widths.width-append}
use Rattle.position_map.proofs.{ErrorPieces.position-alone, LineMarks.marks-append, LineMarks.ends_cr-append, LineMarks.first_start, LineMarks.line_count}
use Rattle.lemmas.proofs.Recursion.{counts-few}

-- a CR in front takes no mark from a text, unless it begins with LF
marks-apart : (f : Bool) (cs more : List ℕ) → (f && begins_lf (cs ++ more)) ≡ false → marks f cs ≡ marks false cs
marks-apart false cs more h = refl
marks-apart true [] more h = refl
marks-apart true (c ∷ cs) more h = let y : (c == lf) ≡ false = h in rw y refl

-- what follows a place with an error
error-behind : (text a b : List ℕ) (offset : ℕ) → text ≡ a ++ b → offset ≡ length a → IsErrorIn text offset → (back : List ℕ) × (b ≡ 0xFFFD ∷ back)
error-behind text a b offset split at e =
    (e.back, sym (drop_at a b offset (sym at)) ∙ ap (drop offset) (sym split ∙ e.split) ∙ drop_at e.front (0xFFFD ∷ e.back) offset (sym e.at))

pub error-within : (text : List ℕ) (offset : ℕ) → IsErrorIn text offset → offset + 1 ≤ length text
error-within text offset e = omega (arith, e.at, ap length e.split, length-append e.front (0xFFFD ∷ e.back))

-- ---- a part of the text

pub stretch-near : (u : TextUnit) (text : List ℕ) (offset count : ℕ) (at : Reached) (x : Stretch) → IsReached u text at
    → count ≡ offset - at.scalars → at.scalars ≤ offset
    → IsScalarCut (chars at.rest.now) count (chars x.part.now) (chars x.rest.now) → x.marks ≡ at.line → x.units ≡ at.units
    → x.after_cr ≡ false → IsStretch u text offset x
stretch-near u text offset count at x l n le k em eu ef =
    let part = chars x.part.now in
    let apart = rw (k.split, append_assoc part (chars x.rest.now) l.far) at l.apart in
    record {
      front = l.front;
      far = l.far;
      split = regroup l.front part (chars x.rest.now) l.far l.split k.split;
      at = omega (arith, length-append l.front part, l.at, k.count, n, le);
      wide = eu ∙ l.wide;
      count = em ∙ l.count;
      ends = rw ef (sym (marks-apart (ends_cr false l.front) part (chars x.rest.now ++ l.far) apart));
    }

pub stretch-in : (u : TextUnit) (text : List ℕ) (offset : ℕ) (s : Sum) (here : List ℕ) (x : Stretch) → IsLocated Scalar offset text s here
    → IsScalarCut here (offset - s.scalars) (chars x.part.now) (chars x.rest.now) → x.marks ≡ s.marks → x.units ≡ sum_in u s
    → x.after_cr ≡ s.cr_last → IsStretch u text offset x
stretch-in u text offset s here x l k em eu ef = record {
  front = l.front;
  far = l.back;
  split = regroup l.front (chars x.part.now) (chars x.rest.now) l.back l.split k.split;
  at = omega (arith, length-append l.front (chars x.part.now), l.sum.scalars, k.count, l.low);
  wide = eu ∙ sum_width u l.front l.items s l.sum;
  count = em ∙ l.sum.marks;
  ends = rw (ef, l.sum.cr_last) refl;
}

-- ---- the place behind it

module _ (u : TextUnit) (text : List ℕ) (offset : ℕ) (x : Stretch) (k : IsStretch u text offset x) where
  abbrev part : List ℕ
  part = chars x.part.now

  abbrev whole : List ℕ
  whole = k.front ++ part

  line-is : x.marks + marks x.after_cr part ≡ marks false whole
  line-is = omega (arith, k.count, k.ends, marks-append false k.front part)

  units-are : x.units + width u part ≡ width u whole
  units-are = omega (arith, k.wide, width-append u k.front part)

  pub marks-room : x.marks + marks x.after_cr part ≤ length text
  marks-room =
      let few = counts-few marks _ _ (λ _. refl) (λ _ _ _. refl) mark-le false whole in
      omega (arith, line-is, few, ap length k.split, length-append whole (chars x.rest.now ++ k.far))

  pub units-room : x.units + width u part ≤ width u text
  units-room = omega (arith, units-are, ap (width u) k.split, width-append u whole (chars x.rest.now ++ k.far))

  pub line-there : length (lines_of text) ≤ x.marks + marks x.after_cr part → ⊥
  line-there h = omega (arith, h, line-is, line_count text, ap (marks false) k.split, marks-append false whole (chars x.rest.now ++ k.far))

  module _ (e : IsErrorIn text offset) where
    apart-here : (ends_cr false whole && begins_lf (chars x.rest.now ++ k.far)) ≡ false
    apart-here = rw (error-behind text whole (chars x.rest.now ++ k.far) offset k.split k.at e).1 (and-false (ends_cr false whole))

    pub reached : (r : Reached) → r.scalars ≡ offset → r.units ≡ x.units + width u part → r.line ≡ x.marks + marks x.after_cr part → r.rest ≡ x.rest
        → BeginsLine u text r.line r.start → IsReached u text r
    reached r es eu el er b = record {
      front = whole;
      far = k.far;
      split = rw er k.split;
      at = es ∙ k.at;
      wide = eu ∙ units-are;
      count = el ∙ line-is;
      apart = rw er apart-here;
      begun = b;
    }

    -- its line begins in the part
    begun-in : (line : List ℕ) → IsLastLine part line → IsBegun u text (marks false whole) (width u line) (width u whole)
    begun-in line l = last_begins u text k.front part (chars x.rest.now ++ k.far) line k.split l apart-here

    pub last-room : (line : List ℕ) → IsLastLine part line → width u line ≤ x.units + width u part
    last-room line l = omega (arith, (begun-in line l).units, units-are)

    pub last-begun : (line : List ℕ) (n start : ℕ) → IsLastLine part line → n ≡ x.marks + marks x.after_cr part
        → start ≡ x.units + width u part - width u line → BeginsLine u text n start
    last-begun line n start l en es =
        let b = begun-in line l in
        let same : start ≡ b.start.units = omega (arith, es, units-are, b.units) in
        rw (en, line-is, same) (record { scalars = b.start.scalars; is = b.is })

pub no-last-line : (f : Bool) (cs : List ℕ) (m : ℕ) → m ≡ marks f cs → 0 < m → marks false cs ≡ 0 → ⊥
no-last-line f cs m e h none = omega (arith, e, h, none, marks-flag_le f cs)

-- ---- the place behind an error's code point

pub passed : (u : TextUnit) (text : List ℕ) (at r : Reached) → IsReached u text at → IsErrorIn text at.scalars
    → IsRestBehind (chars at.rest.now) 1 (chars r.rest.now)
    → r.scalars ≡ at.scalars + 1 → r.units ≡ at.units + width_of u 0xFFFD → r.line ≡ at.line → r.start ≡ at.start → IsReached u text r
passed u text at r l e b es eu el et =
    let f = b.far l.far in
    let behind = error-behind text l.front (chars at.rest.now ++ l.far) at.scalars l.split l.at e in
    let rest : behind.0 ≡ chars r.rest.now ++ f.0 = ap (drop 1) (sym behind.1) ∙ f.1 in
    let last = 0xFFFD ∷ [] in
    record {
      front = l.front ++ last;
      far = f.0;
      split = rw (behind.1, rest, ← append_assoc l.front last (chars r.rest.now ++ f.0)) at l.split;
      at = omega (arith, es, l.at, length-append l.front last);
      wide = omega (arith, eu, l.wide, width-append u l.front last);
      count = omega (arith, el, l.count, marks-append false l.front last);
      apart = rw (ends_cr-append false l.front last) refl;
      begun = rw (el, et) l.begun;
    }

pub passed-room : (u : TextUnit) (text : List ℕ) (at : Reached) (p : Point) → IsReached u text at → IsErrorIn text at.scalars → IsTextEnd u text p
    → at.units + width_of u 0xFFFD ≤ p.units
passed-room u text at p l e end =
    let behind = error-behind text l.front (chars at.rest.now ++ l.far) at.scalars l.split l.at e in
    omega (arith, end.units, ap (width u) (rw behind.1 at l.split), width-append u l.front (0xFFFD ∷ behind.0), l.wide)

-- ---- the position of a place

pub position-there : (u : TextUnit) (text : List ℕ) (at : Reached) (p : Position) → IsReached u text at → p.line ≡ at.line
    → p.character ≡ at.units - at.start → Ok p ≡ position_of text u at.scalars
position-there u text at p l el ec =
    let rest = chars at.rest.now ++ l.far in
    let q : OnLine = record { line = at.line; units = at.units } in
    let on : IsOnLine u text at.scalars q = rw (l.count, l.wide) (on_here u text l.front rest at.scalars l.split l.at l.apart) in
    let within : at.scalars ≤ length text = omega (arith, l.at, ap length l.split, length-append l.front rest) in
    rw (← el, ← ec) at (position_found u text at.scalars q (record { scalars = l.begun.scalars; units = at.start }) on l.begun.is within)

-- an error as it is shown, by the position of its code point and the one after it
pub shown-is : (u : TextUnit) (text : List ℕ) (e : ErrorAt) (first behind : ℕ) (start end : Position) → IsErrorIn text e.scalar
    → first ≡ e.scalar → behind ≡ first + 1 → Ok start ≡ position_of text u first → Ok end ≡ position_of text u behind
    → ◌≡◌ {A = Diagnostic} (record { place = e.place; range = record { start = start; end = end } }) (diagnostic_at text u e)
shown-is u text e first behind start end at f b s t =
    let within = error-within text e.scalar at in
    let next : behind ≡ e.scalar + 1 = omega (arith, f, b) in
    let start_is = position-alone text u first start s (omega (arith, f, within)) in
    let end_is = position-alone text u behind end t (omega (arith, next, within)) in
    rw (start_is, end_is, f, next) refl

-- the text's start
pub reached-first : (u : TextUnit) (text : List ℕ) (at : Reached) → at.scalars ≡ 0 → at.units ≡ 0 → at.line ≡ 0 → at.start ≡ 0
    → chars at.rest.now ≡ [] → IsReached u text at
reached-first u text at es eu el et er =
    let p : Point = record { scalars = 0; units = 0 } in
    let first : IsLineStart u text 0 p = record { point = point-from u text [] text p refl refl refl; is = first_start text } in
    record {
      front = [];
      far = text;
      split = rw er refl;
      at = es;
      wide = eu;
      count = el;
      apart = refl;
      begun = rw (el, et) (record { scalars = 0; is = first });
    }

-- ---- an error's code point is U+FFFD

-- an item isn't an error, or it is one
error-or-none : (i : Item) (x : ErrorAt) → (error_if i x ≡ []) ⊎ ((error_if i x ≡ x ∷ []) × (item_code_points i ≡ 0xFFFD ∷ []))
error-or-none (One c) x = inl refl
error-or-none (Two a b) x = inl refl
error-or-none Error x = inr (refl, refl)

-- the first of these errors, or one after it
at-first : (x e : ErrorAt) (rest : List ErrorAt) (k : ℕ) → slice_get (x ∷ rest) k ≡ Some e → (x ≡ e) ⊎ ((j : ℕ) × (slice_get rest j ≡ Some e))
at-first x e rest zero h = inl (same_some h)
at-first x e rest (suc k) h = inr (k, h)

-- an error among items with code points in front
error-there : (front : List ℕ) (ps : List Placed) (k : ℕ) (e : ErrorAt) → slice_get (errors_from (length front) ps) k ≡ Some e
    → IsErrorIn (front ++ code_points ps) e.scalar
error-there front [] k e h = absurd (none_some h)
error-there front (p ∷ ps) k e h =
    let w = item_code_points p.item in
    let x : ErrorAt = record { place = record { from = p.from; to = p.to }; scalar = length front } in
    let later : (j : ℕ) → slice_get (errors_from (length front + length w) ps) j ≡ Some e → IsErrorIn (front ++ (w ++ code_points ps)) e.scalar =
    λ j g. rw (← append_assoc front w (code_points ps)) (error-there (front ++ w) ps j e (rw (length-append front w) g)) in
    elim (error-or-none p.item x) [
      | inl none ↦ later k (rw none at h)
      | inr here ↦ elim (at-first x e (errors_from (length front + length w) ps) k (rw here.0 at h)) [
        | inl same ↦ rw (← same, here.1) (record { front = front; back = code_points ps; split = refl; at = refl })
        | inr more ↦ later more.0 more.1
      ]
    ]

pub error-in-text : (d : Document) (k : ℕ) (e : ErrorAt) → slice_get (all_errors d) k ≡ Some e → IsErrorIn (text_of d) e.scalar
unfolding decoded_text
error-in-text d k e h = error-there [] (decoded d).items k e h
