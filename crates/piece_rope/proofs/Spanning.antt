-- The code points that an edit can have changed.
use Rattle.piece_rope.proofs.Prelude.{◌≡◌, refl, sym, ap, ◌∙◌, ℕ, zero, suc, ◌+◌, ◌-◌, ◌≤◌, List, [], ◌∷◌, ◌++◌, take, drop, length, arith, append_assoc}
use Rattle.piece_rope.proofs.Prelude.{append-nil, length-append, take-append-drop, length-take-le, drop-drop, take-append-le, drop-append-le, Outcome}
use Rattle.piece_rope.proofs.Prelude.{PreparedEdit, IsSpan, edited, Entry, here_of, texts_of, parts_of, text_in, edited_parts, made_pieces, IsPrepared}
use Rattle.piece_rope.proofs.Prelude.{take-add, take-take}
use Rattle.piece_rope.proofs.Parting.{parts-text, parts-length, edited-is, texts-most}
use Rattle.piece_rope.proofs.Texts.{IsTextPlace, texts-append, texts-split}

-- the text from piece number n on, and up to it
pub drop-text : (ps : List Entry) (tail : Outcome) (n : ℕ) → n ≤ length ps → text_in (drop n (parts_of ps tail)) ≡ texts_of (drop n ps) ++ tail.text
drop-text ps tail zero l = parts-text ps tail
drop-text [] tail (suc n) l = absurd (omega (arith, l))
drop-text (p ∷ ps) tail (suc n) l = drop-text ps tail n (omega (arith, l))

pub take-text : (ps : List Entry) (tail : Outcome) (n : ℕ) → n ≤ length ps → text_in (take n (parts_of ps tail)) ≡ texts_of (take n ps)
take-text ps tail zero l = refl
take-text [] tail (suc n) l = absurd (omega (arith, l))
take-text (p ∷ ps) tail (suc n) l = ap (λ (cs : List ℕ). (here_of p).text ++ cs) (take-text ps tail n (omega (arith, l)))

pub texts-grow : (ps : List Entry) (n m : ℕ) → n ≤ m → length (texts_of (take n ps)) ≤ length (texts_of (take m ps))
texts-grow ps n m l = omega (arith, texts-most (take m ps) n, ap (λ (xs : List Entry). length (texts_of xs)) (take-take n m ps l))

module _ {ps : List Entry} {e : PreparedEdit} (fits : IsPrepared ps e) where
  abbrev pub changed : ℕ
  changed = e.last + length e.renewals.items

  abbrev pub after : List Entry
  after = made_pieces ps e ++ drop changed ps

  front-length : length (take e.first ps) ≡ e.first
  front-length = length-take-le e.first ps (omega (arith, fits.order, fits.within))

  edited-most : (first : ℕ) → first ≤ e.first → first ≤ length (edited ps e)
  edited-most first l = omega (arith, l, front-length, ap length (edited-is fits), length-append (take e.first ps) after)

  -- the text before a piece that stays
  same-front : (tail : Outcome) (first : ℕ) → first ≤ e.first → text_in (take first (edited_parts ps e)) ≡ text_in (take first (parts_of ps tail))
  same-front tail first l =
      let front = take-append-le first (take e.first ps) after (omega (arith, l, front-length)) in
      let old = take-text ps tail first (omega (arith, l, fits.order, fits.within)) in
      cc (take-text (edited ps e) e.tail first (edited-most first l), old, edited-is fits, front, take-take first e.first ps l)

  -- the pieces from one of them up to a later one, and the rest
  split-at : (first to : ℕ) → first ≤ to → drop first ps ≡ take (to - first) (drop first ps) ++ drop to ps
  split-at first to l =
      let s : first + (to - first) ≡ to = omega arith in
      cc (s, take-append-drop (to - first) (drop first ps), drop-drop (to - first) first ps)

  -- what the edit leaves from one piece up to a later one after it
  abbrev pub window : (first to : ℕ) → List Entry
  window first to = drop first (take e.first ps) ++ (made_pieces ps e ++ take (to - changed) (drop changed ps))

  edited-at : (first to : ℕ) → first ≤ e.first → changed ≤ to → drop first (edited ps e) ≡ window first to ++ drop to ps
  edited-at first to l m =
      let front = drop first (take e.first ps) in
      let made = made_pieces ps e in
      let between = take (to - changed) (drop changed ps) in
      let behind = drop-append-le first (take e.first ps) after (omega (arith, l, front-length)) in
      cc (edited-is fits, behind, split-at changed to m, append_assoc made between (drop to ps), append_assoc front (made ++ between) (drop to ps))

  three : (xs ys : List Entry) (end : List ℕ) → texts_of (xs ++ ys) ++ end ≡ texts_of xs ++ (texts_of ys ++ end)
  three xs ys end = cc (texts-append xs ys, append_assoc (texts_of xs) (texts_of ys) end)

  -- from a piece that stays on
  module _ (tail : Outcome) (first : ℕ) {before : ℕ} (end : ℕ) {i : ℕ} (j : ℕ) {k seen : ℕ} (l : first ≤ e.first)
      (before_is : before ≡ length (texts_of (take first ps))) (place : IsTextPlace ps i k seen) (reach : first ≤ k) (high : j ≤ end) where
    low : before ≤ i
    low = omega (arith, before_is, texts-grow ps first k reach, place.before_is, place.low)

    old-behind : text_in (drop first (parts_of ps tail)) ≡ texts_of (drop first ps) ++ tail.text
    old-behind = drop-text ps tail first (omega (arith, l, fits.order, fits.within))

    new-behind : text_in (drop first (edited_parts ps e)) ≡ texts_of (drop first (edited ps e)) ++ e.tail.text
    new-behind = drop-text (edited ps e) e.tail first (edited-most first l)

    before-text : before ≡ length (text_in (take first (parts_of ps tail)))
    before-text = before_is ∙ ap length (sym (take-text ps tail first (omega (arith, l, fits.order, fits.within))))

    -- what the end gives stays, so that the pieces from number `to` on are the same
    pub span-agreed : (to : ℕ) → changed ≤ to → to ≤ length ps → end ≡ length (texts_of (take to ps)) → e.tail.text ≡ tail.text
        → IsSpan (parts_of ps tail) (edited_parts ps e) i j (record { first = first; before = before; end = end })
    span-agreed to m within end_is same =
        let order : first ≤ to = omega (arith, l, m, fits.order) in
        let middle = take (to - first) (drop first ps) in
        let up : take to ps ≡ take first ps ++ middle =
        let s : first + (to - first) ≡ to = omega arith in cc (s, take-add first (to - first) ps) in
        let long = ap (λ (xs : List Entry). length (texts_of xs)) up ∙ ap length (texts-append (take first ps) middle) in
        record {
          mid = texts_of middle;
          made = texts_of (window first to);
          back = texts_of (drop to ps) ++ tail.text;
          within = omega (arith, order, within, parts-length ps tail);
          front_is = same-front tail first l;
          old_is = cc (old-behind, split-at first to order, three middle (drop to ps) tail.text);
          new_is = cc (new-behind, edited-at first to l m, three (window first to) (drop to ps) e.tail.text);
          before_is = before-text;
          end_is = omega (arith, end_is, before_is, long, length-append {A = ℕ});
          low = low;
          high = high;
        }

    -- all up to the end
    pub span-to-end : end ≡ length (text_in (parts_of ps tail))
        → IsSpan (parts_of ps tail) (edited_parts ps e) i j (record { first = first; before = before; end = end })
    span-to-end end_is =
        record {
          mid = texts_of (drop first ps) ++ tail.text;
          made = texts_of (drop first (edited ps e)) ++ e.tail.text;
          back = [];
          within = omega (arith, l, fits.order, fits.within, parts-length ps tail);
          front_is = same-front tail first l;
          old_is = old-behind ∙ sym (append-nil (texts_of (drop first ps) ++ tail.text));
          new_is = new-behind ∙ sym (append-nil (texts_of (drop first (edited ps e)) ++ e.tail.text));
          before_is = before-text;
          end_is = omega (arith, end_is, before_is, ap length (parts-text ps tail), ap length (texts-split ps first), length-append {A = ℕ});
          low = low;
          high = high;
        }

  -- how many code points there are once the edit is made
  pub edited-count : length (text_in (edited_parts ps e)) ≡ length (texts_of (take e.first ps))
      + (length (texts_of (made_pieces ps e)) + (length (texts_of (drop changed ps)) + length e.tail.text))
  edited-count =
      let rest = texts-append (made_pieces ps e) (drop changed ps) in
      let all : text_in (edited_parts ps e) ≡ (texts_of (take e.first ps) ++ texts_of after) ++ e.tail.text =
      cc (parts-text (edited ps e) e.tail, edited-is fits, texts-append (take e.first ps) after) in
      omega (arith, ap length all, ap length rest, length-append {A = ℕ})
