-- The digits of a number, and of one near it.
use Rattle.std.proofs.Common.{◌≡◌, ℕ, zero, suc, ◌+◌, ◌-◌, ◌/◌, ◌%◌, ◌^◌, ◌<◌, ◌≤◌, refl, sym, ap, ◌∙◌, inl, inr, arith, eq-zero-or-pos}
use Rattle.std.proofs.Common.{List, [], ◌∷◌, ◌++◌, append_assoc, decimal, drop, take, length, length-append, get_or, set, take-take}
use Rattle.std.proofs.lemmas.List.{take-append-drop, drop-take, drop_all, drop-append-le, length-take, length-take-le, get_or-take}
use Rattle.std.proofs.Math.Seq.{take-add, take-append_seam, take-append-add, drop-append_seam, get_or-append_seam, set-append_seam, take-set-lt}
use Rattle.std.proofs.lemmas.{Fmt.decimal_digit, Fmt.decimal_step, Fmt.length-decimal-le, Slice.take-put_mid}
use borrow.Rule.Slice.PartMut.{put_mid}
use Rattle.line_protocol.specs.Writing.{IsFront}

pub short : (n : ℕ) → n < 2 ^ 64 → length (decimal n) ≤ 20
short n fits = length-decimal-le 20 n (omega arith) (omega (arith, fits)) fits

-- ---- the first bytes of some that were copied behind others

pub filled-first : (l k n : ℕ) (bytes more : List ℕ) → n ≤ length more → l ≤ length bytes → take (l + n) (put_mid l k bytes more) ≡ take l bytes ++ take n more
filled-first l k n bytes more part room =
    sym (take-take (l + n) (l + length more) (put_mid l k bytes more) (omega (arith, part)))
    ∙ ap (take (l + n)) (take-put_mid l k bytes more (l + length more) refl room)
    ∙ ap (λ (i : ℕ). take (i + n) (take l bytes ++ more)) (sym (length-take-le l bytes room))
    ∙ take-append-add (take l bytes) more n

-- ---- the last digit

abbrev front_of : ℕ → List ℕ
front_of zero = []
front_of (suc n) = decimal (suc n)

some-front : (n : ℕ) → 0 < n → front_of n ≡ decimal n
some-front zero some = absurd (omega (arith, some))
some-front (suc n) some = refl

by-last : (n : ℕ) → n < 2 ^ 64 → decimal n ≡ front_of (n / 10) ++ (48 + n % 10) ∷ []
by-last n fits =
    elim (eq-zero-or-pos (n / 10)) [
      | inl none ↦ let one : n % 10 ≡ n = omega (arith, none) in rw (none, one) (decimal_digit n (omega (arith, none)))
      | inr some ↦ rw (some-front (n / 10) some) (decimal_step n (omega (arith, some)) fits)
    ]

-- ---- the last four

abbrev four : ℕ → List ℕ
four n = (48 + n / 1000 % 10) ∷ (48 + n / 100 % 10) ∷ (48 + n / 10 % 10) ∷ (48 + n % 10) ∷ []

appended : (front : List ℕ) (a b c d : ℕ) → (((front ++ a ∷ []) ++ b ∷ []) ++ c ∷ []) ++ d ∷ [] ≡ front ++ a ∷ b ∷ c ∷ d ∷ []
appended front a b c d = simp append_assoc

by-four : (n : ℕ) → 1000 ≤ n → n < 2 ^ 64 → decimal n ≡ front_of (n / 10000) ++ four n
by-four n long fits =
    let a : n / 10 / 10 ≡ n / 100 = omega arith in
    let b : n / 100 / 10 ≡ n / 1000 = omega arith in
    let c : n / 1000 / 10 ≡ n / 10000 = omega arith in
    rw (
      decimal_step n (omega (arith, long)) fits,
      decimal_step (n / 10) (omega (arith, long)) (omega (arith, fits)),
      a,
      decimal_step (n / 100) (omega (arith, long)) (omega (arith, fits)),
      b,
      by-last (n / 1000) (omega (arith, fits)),
      c,
    )
    (appended (front_of (n / 10000)) (48 + n / 1000 % 10) (48 + n / 100 % 10) (48 + n / 10 % 10) (48 + n % 10))

four-alone : (low : ℕ) → 1000 ≤ low → low < 10000 → decimal low ≡ four low
four-alone low long few =
    let none : low / 10000 ≡ 0 = omega (arith, few) in
    by-four low long (omega (arith, few)) ∙ ap (λ (n : ℕ). front_of n ++ four low) none

length-four : (low : ℕ) → 1000 ≤ low → low < 10000 → length (decimal low) ≡ 4
length-four low long few = ap length (four-alone low long few)

-- a number's digits are those before the last four, and the last four
behind-front : (n low : ℕ) → 1000 ≤ low → low < 10000 → n - n % 10000 + low < 2 ^ 64
    → front_of (n / 10000) ++ decimal low ≡ decimal (n - n % 10000 + low)
behind-front n low long few fits =
    let whole = n - n % 10000 + low in
    let a : whole / 10000 ≡ n / 10000 = omega (arith, few) in
    let b : whole / 1000 % 10 ≡ low / 1000 % 10 = omega (arith, few) in
    let c : whole / 100 % 10 ≡ low / 100 % 10 = omega (arith, few) in
    let d : whole / 10 % 10 ≡ low / 10 % 10 = omega (arith, few) in
    let e : whole % 10 ≡ low % 10 = omega (arith, few) in
    rw (four-alone low long few, by-four whole (omega (arith, long)) fits, a, b, c, d, e) refl

-- ---- digits that were written so that they end at 20

pub ends-at : (digits text old : List ℕ) (begin : ℕ) → begin + length digits ≡ 20 → drop begin text ≡ digits ++ old → drop begin (take 20 text) ≡ digits
ends-at digits text old begin start written =
    ap (λ (n : ℕ). drop begin (take n text)) (sym start)
    ∙ drop-take begin (length digits) text
    ∙ ap (take (length digits)) written
    ∙ take-append_seam digits old

front-is : (n begin : ℕ) (text : List ℕ) → n < 2 ^ 64 → begin + length (decimal n) ≡ 20 → drop begin (take 20 text) ≡ decimal n
    → drop begin (take 16 text) ≡ front_of (n / 10000)
front-is n begin text fits start is =
    elim (eq-zero-or-pos (n / 10000)) [
      | inl none ↦
          let small : length (decimal n) ≤ 4 = length-decimal-le 4 n (omega arith) (omega (arith, none)) fits in
          drop_all begin (take 16 text) (omega (arith, length-take 16 text, start, small)) ∙ ap front_of (sym none)
      | inr some ↦
          let front = front_of (n / 10000) in
          let parts = by-four n (omega (arith, some)) fits in
          let size : begin + length front ≡ 16 = omega (arith, start, ap length parts, length-append front (four n)) in
          ap (drop begin) (sym (take-take 16 20 text (omega arith)))
          ∙ ap (λ (i : ℕ). drop begin (take i (take 20 text))) (sym size)
          ∙ drop-take begin (length front) (take 20 text)
          ∙ ap (take (length front)) (is ∙ parts)
          ∙ take-append_seam front (four n)
    ]

pub begun : (n begin : ℕ) (text : List ℕ) → 1000 ≤ n → n < 2 ^ 64 → begin + length (decimal n) ≡ 20 → drop begin (take 20 text) ≡ decimal n
    → IsFront (n - n % 10000) begin text
begun n begin text long fits start is = record {
  within = omega (arith, start);
  behind = λ _. omega (arith, start, ap length (by-four n long fits), length-append (front_of (n / 10000)) (four n));
  goes_on = λ low much few sum. ap (λ (front : List ℕ). front ++ decimal low) (front-is n begin text fits start is) ∙ behind-front n low much few sum;
}

pub none-near : (begin : ℕ) (text : List ℕ) → begin ≤ 20 → IsFront 18446744073709551615 begin text
none-near begin text within = record {
  within = within;
  behind = λ near. absurd (omega (arith, near));
  goes_on = λ low long few near. absurd (omega (arith, long, near));
}

-- ---- the last four in place of others

alone-at : (at low : ℕ) → 1000 ≤ low → low < 10000 → at + length (decimal low) ≡ 20 → at ≡ 16
alone-at at low long few start = omega (arith, start, length-four low long few)

pub same-front : (base begin at low : ℕ) (old new : List ℕ) → 1000 ≤ low → low < 10000 → at + length (decimal low) ≡ 20
    → IsFront base begin old → take at new ≡ take at old → IsFront base begin new
same-front base begin at low old new long few start front before =
    let same : take 16 new ≡ take 16 old = rw (alone-at at low long few start) at before in record {
      within = front.within;
      behind = front.behind;
      goes_on = λ more much little sum. ap (λ (t : List ℕ). drop begin t ++ decimal more) same ∙ front.goes_on more much little sum;
    }

pub written-low : (base begin at low : ℕ) (new old : List ℕ) → 1000 ≤ low → low < 10000 → base + low < 2 ^ 64 → at + length (decimal low) ≡ 20
    → length new ≡ 40 → IsFront base begin new → drop at new ≡ decimal low ++ old → drop begin (take 20 new) ≡ decimal (base + low)
written-low base begin at low new old long few fits start room front written =
    let last : drop 16 new ≡ decimal low ++ old = rw (alone-at at low long few start) at written in
    let whole : take 20 new ≡ take 16 new ++ decimal low =
    take-add 16 4 new ∙ ap (λ (t : List ℕ). take 16 new ++ take 4 t) last
    ∙ ap (λ (n : ℕ). take 16 new ++ take n (decimal low ++ old)) (sym (length-four low long few))
    ∙ ap (λ (t : List ℕ). take 16 new ++ t) (take-append_seam (decimal low) old) in
    ap (drop begin) whole
    ∙ drop-append-le begin (take 16 new) (decimal low)
    (omega (arith, front.behind (omega (arith, long, fits)), room, length-take-le 16 new (omega (arith, room))))
    ∙ front.goes_on low long few fits

-- ---- the last digit in place of another

split : (n begin : ℕ) (text : List ℕ) → n < 2 ^ 64 → drop begin (take 20 text) ≡ decimal n
    → take 20 text ≡ (take begin (take 20 text) ++ front_of (n / 10)) ++ (48 + n % 10) ∷ []
split n begin text fits is =
    let whole = take 20 text in
    sym (take-append-drop begin whole)
    ∙ ap (λ (t : List ℕ). take begin whole ++ t) (is ∙ by-last n fits)
    ∙ sym (append_assoc (take begin whole) (front_of (n / 10)) ((48 + n % 10) ∷ []))

front-size : (n begin : ℕ) (text : List ℕ) → n < 2 ^ 64 → length text ≡ 40 → drop begin (take 20 text) ≡ decimal n
    → length (take begin (take 20 text) ++ front_of (n / 10)) ≡ 19
front-size n begin text fits room is =
    let front = take begin (take 20 text) ++ front_of (n / 10) in
    omega (arith, ap length (split n begin text fits is), length-append front ((48 + n % 10) ∷ []), length-take-le 20 text (omega (arith, room)))

pub last-digit : (n begin : ℕ) (text : List ℕ) → n < 2 ^ 64 → length text ≡ 40 → drop begin (take 20 text) ≡ decimal n → get_or text 19 0 ≡ 48 + n % 10
last-digit n begin text fits room is =
    let front = take begin (take 20 text) ++ front_of (n / 10) in
    sym (get_or-take 20 text 19 0 (omega arith))
    ∙ ap (λ (t : List ℕ). get_or t 19 0) (split n begin text fits is)
    ∙ ap (λ (i : ℕ). get_or (front ++ (48 + n % 10) ∷ []) i 0) (sym (front-size n begin text fits room is))
    ∙ get_or-append_seam front (48 + n % 10) [] 0

pub raised : (first second begin last : ℕ) (text : List ℕ) → first < 2 ^ 64 → second < 2 ^ 64 → begin ≤ 20 → length text ≡ 40
    → drop begin (take 20 text) ≡ decimal first → second / 10 ≡ first / 10 → last ≡ 48 + second % 10
    → drop begin (take 20 (set text 19 last)) ≡ decimal second
raised first second begin last text fits later-fits within room is tens ones =
    let whole = take 20 text in
    let front = take begin whole ++ front_of (first / 10) in
    let whole-size = length-take-le 20 text (omega (arith, room)) in
    let set-last : take 20 (set text 19 last) ≡ take begin whole ++ (front_of (first / 10) ++ last ∷ []) =
    take-set-lt 20 text 19 last (omega arith)
    ∙ ap (λ (t : List ℕ). set t 19 last) (split first begin text fits is)
    ∙ ap (λ (i : ℕ). set (front ++ (48 + first % 10) ∷ []) i last) (sym (front-size first begin text fits room is))
    ∙ set-append_seam front (48 + first % 10) [] last
    ∙ append_assoc (take begin whole) (front_of (first / 10)) (last ∷ []) in
    ap (drop begin) set-last
    ∙ ap (λ (i : ℕ). drop i (take begin whole ++ (front_of (first / 10) ++ last ∷ []))) (sym (length-take-le begin whole (omega (arith, within, whole-size))))
    ∙ drop-append_seam (take begin whole) (front_of (first / 10) ++ last ∷ [])
    ∙ rw (ones, sym tens) (sym (by-last second later-fits))

-- ---- what is copied of them

pub shown : (begin : ℕ) (text : List ℕ) → begin ≤ 20 → take (20 - begin) (take (begin + 20 - begin) (drop begin text)) ≡ drop begin (take 20 text)
shown begin text within =
    let all : begin + (20 - begin) ≡ 20 = omega (arith, within) in
    take-take (20 - begin) (begin + 20 - begin) (drop begin text) (omega (arith, within))
    ∙ sym (drop-take begin (20 - begin) text)
    ∙ ap (λ (n : ℕ). drop begin (take n text)) all
