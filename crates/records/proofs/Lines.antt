-- The line of an event is read as that event.
use Rattle.std.proofs.Common.{◌≡◌, ℕ, zero, suc, ◌+◌, ◌-◌, ◌*◌, ◌%◌, ◌^◌, ◌<◌, ◌≤◌, ◌==◌, Bool, true, false, nat_le, List, [], ◌∷◌, ◌++◌, length, take}
use Rattle.std.proofs.Common.{replicate, slice_index, codes, Some, Ok, if◌then◌else◌, refl, sym, ap, ◌∙◌, arith, append_assoc, length-append, decimal, le-leb}
use Rattle.std.proofs.{Common.bytes_eq, Common.inl, Common.inr, lemmas.Bool.cases_lt, lemmas.Bool.false_from_ne_true, lemmas.Fmt.decimal_injective}
use Rattle.std.proofs.lemmas.{Bool.Decides.eqb_tells, Fmt.decimal_by_steps, Fmt.length-decimal-le, Slice.Eq.bytes_eq-Decides, List.length-replicate}
use Rattle.std.{proofs.lemmas.List.take-append-le, proofs.Math.Seq.take-append-add, proofs.Math.Seq.take-nil, specs.Result.result_ok}
use Rattle.base64.specs.{Rfc4648.encode_symbols, Rfc4648.padding_len, Engines.standard, GeneralPurpose.encode_of, GeneralPurpose.decode_of}
use Rattle.base64.{specs.GeneralPurpose.IsBytes, proofs.EngineFacts.decode_of-encode_of, proofs.RoundTrip.length-encode_symbols}
use Rattle.connections.specs.{CitedLaws.LinesCut, Events.Happening, Events.Opening, Events.Bringing, Events.Closing, Lines.has_end}
use Rattle.gateway.specs.Trace.{is_skipped, trace_limit, bringing, number_below, before_space, after_space, some_bytes}
use Rattle.gateway.specs.Traced.{line_events}
unfoldable use Rattle.gateway.specs.Trace.{number_in}
use Rattle.records.specs.Lines.{words_of, record_of, IsRecordable, AreRecordable, events_in, LinesAreEvents, Cut, RecordsAreCut}

-- ---- the digits of a number

-- neither a line feed nor a space is among the bytes
abbrev pub IsPlain : List ℕ → Type 0
IsPlain [] = Unit {0}
IsPlain (x ∷ xs) = ((x == 10) ≡ false) × ((x == 32) ≡ false) × IsPlain xs

pub plain-append : (xs ys : List ℕ) → IsPlain xs → IsPlain ys → IsPlain (xs ++ ys)
plain-append [] ys p q = q
plain-append (x ∷ xs) ys p q = (p.0, p.1, plain-append xs ys p.2 q)

pub no_end : (xs ys : List ℕ) → IsPlain xs → has_end ys ≡ false → has_end (xs ++ ys) ≡ false
no_end [] ys p e = e
no_end (x ∷ xs) ys p e = rw p.0 (no_end xs ys p.2 e)

pub no_end_alone : (xs : List ℕ) → IsPlain xs → has_end xs ≡ false
no_end_alone [] p = refl
no_end_alone (x ∷ xs) p = rw p.0 (no_end_alone xs p.2)

pub before : (xs ys : List ℕ) → IsPlain xs → before_space (xs ++ 32 ∷ ys) ≡ xs
before [] ys p = refl
before (x ∷ xs) ys p = rw p.1 (ap (λ l. x ∷ l) (before xs ys p.2))

pub after : (xs ys : List ℕ) → IsPlain xs → after_space (xs ++ 32 ∷ ys) ≡ Some ys
after [] ys p = refl
after (x ∷ xs) ys p = rw p.1 (after xs ys p.2)

digit_plain : (d : ℕ) → d < 10 → IsPlain ((48 + d) ∷ [])
digit_plain d small = (grind arith, grind arith, tt)

pub decimal_plain : (n : ℕ) → n < 2 ^ 64 → IsPlain (decimal n)
decimal_plain =
    decimal_by_steps (λ n ds. IsPlain ds) digit_plain (λ n ds big p. plain-append ds _ p (digit_plain (n % 10) (omega arith)))

-- ---- numbers

found_below : (n k : ℕ) → n < k → k < 257 → number_below k (decimal n) ≡ Some n
found_below n zero small most = absurd (omega arith)
found_below n (suc k) small most =
    let same = bytes_eq-Decides (decimal k) (decimal n) in elim (eqb_tells k n) as (λ _. number_below (suc k) (decimal n) ≡ Some n) [
      | inl here ↦ rw (same.1 (ap decimal here.1)) (ap Some here.1)
      | inr other ↦
          let no = false_from_ne_true (bytes_eq (decimal k) (decimal n)) (λ is. other.1 (decimal_injective k n (omega arith) (omega arith) (same.0 is))) in
          rw no (found_below n k (omega (arith, other.1)) (omega arith))
    ]

number_is : (n : ℕ) → n < 256 → number_in (decimal n) ≡ Some n
unfolding number_in
number_is n small = found_below n 256 small (omega arith)

-- ---- base64

pub first_not : (b t : Bool) → (if b then true else t) ≡ false → (b ≡ false) × (t ≡ false)
first_not true t e = cc
first_not false t e = (refl, e)

-- the same, as a test
abbrev pub is_plain : List ℕ → Bool
is_plain [] = true
is_plain (x ∷ xs) = if x == 10 then false else (if x == 32 then false else is_plain xs)

neither : (a b c : Bool) → (if a then false else (if b then false else c)) ≡ true → (a ≡ false) × (b ≡ false) × (c ≡ true)
neither true b c e = cc
neither false true c e = cc
neither false false c e = (refl, refl, e)

pub plain_from : (xs : List ℕ) → is_plain xs ≡ true → IsPlain xs
plain_from [] e = tt
plain_from (x ∷ xs) e = let each = neither (x == 10) (x == 32) (is_plain xs) e in (each.0, each.1, plain_from xs each.2)

-- no symbol is a line feed or a space
abbrev Plain : List ℕ → ℕ → Type 0
Plain t i = ((slice_index t i == 10) ≡ false) × ((slice_index t i == 32) ≡ false)

plain_at : (t : List ℕ) → IsPlain t → (i : ℕ) → Plain t i
plain_at [] p i = (refl, refl)
plain_at (x ∷ t) p zero = (p.0, p.1)
plain_at (x ∷ t) p (suc i) = plain_at t p.2 i

symbols_plain : (t m : List ℕ) → ((i : ℕ) → Plain t i) → IsPlain (encode_symbols t m)
unfolding encode_symbols
symbols_plain t [] h = tt
symbols_plain t (a ∷ []) h = ((h _).0, (h _).1, ((h _).0, (h _).1, tt))
symbols_plain t (a ∷ b ∷ []) h = ((h _).0, (h _).1, ((h _).0, (h _).1, ((h _).0, (h _).1, tt)))
symbols_plain t (a ∷ b ∷ c ∷ rest) h = ((h _).0, (h _).1, ((h _).0, (h _).1, ((h _).0, (h _).1, ((h _).0, (h _).1, symbols_plain t rest h))))

pub no_end_append : (xs ys : List ℕ) → has_end xs ≡ false → has_end ys ≡ false → has_end (xs ++ ys) ≡ false
no_end_append [] ys p q = q
no_end_append (x ∷ xs) ys p q = let both = first_not (x == 10) (has_end xs) p in rw both.0 (no_end_append xs ys both.1 q)

plain_padding : (n : ℕ) → IsPlain (replicate n 61)
plain_padding zero = tt
plain_padding (suc n) = (refl, refl, plain_padding n)

pub base64_plain : (m : List ℕ) → IsPlain (encode_of standard m)
base64_plain m =
    plain-append (encode_symbols standard.encode_table m) (replicate (padding_len (length m)) 61)
    (symbols_plain standard.encode_table m (plain_at standard.encode_table (plain_from standard.encode_table refl))) (plain_padding (padding_len (length m)))

pub length_base64 : (m : List ℕ) → length (encode_of standard m) ≤ 2 * length m + 4
length_base64 m =
    let pad : ℕ = 61 in
    let whole = length-append (encode_symbols standard.encode_table m) (replicate (padding_len (length m)) pad) in
    omega (arith, length-encode_symbols standard.encode_table m, length-replicate (padding_len (length m)) pad, whole)

-- ---- the line of an event

some_bytes_is : (text m : List ℕ) → decode_of standard text ≡ Ok m → 0 < length text → some_bytes text ≡ Some m
some_bytes_is [] m e some = absurd (omega (arith, some))
some_bytes_is (x ∷ xs) m e some = ap result_ok e

base64_is_some : (m : List ℕ) → 0 < length m → 0 < length (encode_of standard m)
base64_is_some m some =
    let whole = length-append (encode_symbols standard.encode_table m) (replicate (padding_len (length m)) 61) in
    omega (arith, length-encode_symbols standard.encode_table m, whole)

pub bytes_are : (m : List ℕ) → IsBytes m → 0 < length m → some_bytes (encode_of standard m) ≡ Some m
bytes_are m bytes some = some_bytes_is (encode_of standard m) m (decode_of-encode_of standard m refl bytes) (base64_is_some m some)

short : (n : ℕ) → n < 256 → length (decimal n) ≤ 3
short n small = length-decimal-le 3 n (omega arith) (omega arith) (omega arith)

fits : (line : List ℕ) → length line ≤ 8300 → nat_le (length line) trace_limit ≡ true
fits line small = le-leb (length line) trace_limit (omega arith)

bringing_is : (c : ℕ) (bytes : List ℕ) → IsRecordable (Bringing c bytes) → bringing (decimal c ++ 32 ∷ encode_of standard bytes) ≡ Some (Bringing c bytes)
bringing_is c bytes r =
    let plain = decimal_plain c (omega (arith, r.0)) in rw (after _ _ plain, before _ _ plain, number_is c r.0, bytes_are bytes r.1 r.2)

pub lines_are_events : LinesAreEvents
lines_are_events (Opening c) r = rw (fits (codes "open " ++ decimal c) (omega (arith, short c r)), number_is c r)
lines_are_events (Bringing c bytes) r =
    let whole = length-append (decimal c) (32 ∷ encode_of standard bytes) in
    let small = fits (codes "bytes " ++ (decimal c ++ 32 ∷ encode_of standard bytes)) (omega (arith, short c r.0, length_base64 bytes, whole, r.3)) in
    rw (small, bringing_is c bytes r)
lines_are_events (Closing c) r = rw (fits (codes "close " ++ decimal c) (omega (arith, short c r)), number_is c r)

pub no_end_in_words : (e : Happening) → IsRecordable e → has_end (words_of e) ≡ false
no_end_in_words (Opening c) r = no_end_alone (decimal c) (decimal_plain c (omega (arith, r)))
no_end_in_words (Bringing c bytes) r =
    no_end (decimal c) _ (decimal_plain c (omega (arith, r.0))) (no_end_alone (encode_of standard bytes) (base64_plain bytes))
no_end_in_words (Closing c) r = no_end_alone (decimal c) (decimal_plain c (omega (arith, r)))

one_event : (e : Happening) → IsRecordable e → line_events (is_skipped (words_of e)) (words_of e) ≡ e ∷ []
one_event (Opening c) r = rw (lines_are_events (Opening c) r) refl
one_event (Bringing c bytes) r = rw (lines_are_events (Bringing c bytes) r, r.4) refl
one_event (Closing c) r = rw (lines_are_events (Closing c) r) refl

-- the first line of a record, and the rest
pub first_line : LinesCut → (e : Happening) (rest : List ℕ) → IsRecordable e → events_in (words_of e ++ 10 ∷ rest) ≡ e ∷ events_in rest
first_line cuts e rest r = rw (cuts.complete_at_end [] (words_of e) rest (no_end_in_words e r), one_event e r) refl

pub whole_is_read : LinesCut → (es : List Happening) → AreRecordable es → events_in (record_of es) ≡ es
whole_is_read cuts [] r = refl
whole_is_read cuts (e ∷ es) r = first_line cuts e (record_of es) r.0 ∙ ap (λ l. e ∷ l) (whole_is_read cuts es r.1)

-- ---- a record that is cut

no_end_in_front : (n : ℕ) (xs : List ℕ) → has_end xs ≡ false → has_end (take n xs) ≡ false
no_end_in_front zero xs e = refl
no_end_in_front (suc n) [] e = refl
no_end_in_front (suc n) (x ∷ xs) e = let both = first_not (x == 10) (has_end xs) e in rw both.0 (no_end_in_front n xs both.1)

cut_in_line : LinesCut → (n : ℕ) (e : Happening) (es : List Happening) → IsRecordable e → n ≤ length (words_of e) → Cut (e ∷ es) n
cut_in_line cuts n e es r small =
    let text = take-append-le n (words_of e) (10 ∷ record_of es) small in
    let plain = no_end_in_front n (words_of e) (no_end_in_words e r) in
    let lines = cuts.complete_without [] (take n (words_of e)) plain in
    record { front = []; rest = e ∷ es; are = refl; read = rw (text, lines) refl; torn = take n (words_of e); text = text; no_line = plain }

cut_later : LinesCut → (e : Happening) (es : List Happening) (n m : ℕ) → IsRecordable e → n ≡ length (words_of e) + suc m → Cut es m → Cut (e ∷ es) n
cut_later cuts e es n m r is c =
    let text : take n (words_of e ++ 10 ∷ record_of es) ≡ words_of e ++ 10 ∷ take m (record_of es) =
    rw is (take-append-add (words_of e) (10 ∷ record_of es) (suc m)) in record {
      front = e ∷ c.front;
      rest = c.rest;
      are = ap (λ l. e ∷ l) c.are;
      read = ap events_in text ∙ first_line cuts e (take m (record_of es)) r ∙ ap (λ l. e ∷ l) c.read;
      torn = c.torn;
      text = text ∙ ap (λ l. words_of e ++ 10 ∷ l) c.text ∙ sym (append_assoc (words_of e) (10 ∷ record_of c.front) c.torn);
      no_line = c.no_line;
    }

pub records_are_cut : LinesCut → RecordsAreCut
records_are_cut cuts [] n r = record { front = []; rest = []; are = refl; read = rw (take-nil n) refl; torn = []; text = take-nil n; no_line = refl }
records_are_cut cuts (e ∷ es) n r = elim (cases_lt (length (words_of e)) n) [
  | inl more ↦
      let m : ℕ = n - length (words_of e) - 1 in cut_later cuts e es n m r.0 (omega arith) (records_are_cut cuts es m r.1)
  | inr torn ↦ cut_in_line cuts n e es r.0 torn
]
