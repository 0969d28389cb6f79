-- Items that are code points of a text.
use Rattle.std.proofs.Common.{◌≡◌, ◌≢◌, refl, sym, ap, ◌∙◌, ℕ, zero, suc, ◌+◌, ◌-◌, ◌*◌, ◌/◌, ◌<◌, ◌≤◌, Bool, true, false, List, [], ◌∷◌, ◌++◌}
use Rattle.std.proofs.Common.{append_assoc, append-nil, length, length-append, take, drop, take-append-drop, arith, ℤ, pos, ◌+ℤ◌, ◌<ℤ◌, Option, Some, None}
use Rattle.std.proofs.Common.{cond, nat_lt, inl, inr, slice_get, option_map, min, fold}
use Rattle.std.proofs.{lemmas.List.drop-append-le, lemmas.List.drop_all, Math.Seq.drop-append_seam}
use Rattle.decoder_core.specs.{Bulk.IsOwnText, Queue.Table, Queue.feed}
use Rattle.lane_utf.specs.Within.{within}
use Rattle.state_memo.specs.{Gathering.IsEven, declared.tail.PlainPart.PlainPart, declared.tail.PlainTail.PlainTail, Runs.items_of_last, Runs.runs_of_last}
use Rattle.state_memo.specs.Plain.{stride_of, HasStride, IsWider, IsPart, IsTail, item_behind, own_gathered, tail_items, part_items, plain_runs}
use Rattle.state_memo.proofs.Prelude.{cases_lt, ints, nat_tests, len_utf8, Stride, Utf8, Utf16, Pairs, Bytes, width_of, run_width, OutputState, Ended}
use Rattle.state_memo.proofs.Prelude.{ItemKind, plain_items_from, all_scalars, scalars_before, item_of, item_of_kind, items_of_runs, le_z}
use Rattle.state_memo.proofs.Prelude.{slice_get_past, errors_in, length-drop, utf16_width, encode_utf8_all, Run, items_of_run, total_width, utf8_width}
use Rattle.state_memo.proofs.Prelude.{IsUtf8, chars, no_item, shown_from, take_all, with_shown}
use Rattle.state_memo.proofs.{CodePoints.fold-plain, CodePoints.plain-no-errors, CodePoints.utf8-run, Numbers.width-chars, Numbers.width-encodes}
use Rattle.lemmas.proofs.Lists.{get-back}
use Rattle.state_memo.proofs.Walking.{at-start, run-append}
use Rattle.state_memo.proofs.Walks.{back-item, before-append, errors-append, last-behind, length-few-until, no-errors-more, scalars-append}

-- ---- how long they are

-- code points whose items are as long by one stride as by another
pub record IsSame (s t : Stride) (cs : List ℕ) : Type 0 where
  pub width : run_width s cs ≡ run_width t cs
  pub items : (from : ℤ) (output : OutputState) → plain_items_from s from output cs ≡ plain_items_from t from output cs

same-more : (s t : Stride) (c : ℕ) (cs : List ℕ) → width_of s c ≡ width_of t c → IsSame s t cs → IsSame s t (c ∷ cs)
same-more s t c cs e rest = record {
  width = omega (arith, e, rest.width);
  items = λ from output. rw (e, rest.items (from +ℤ pos (width_of t c)) output) refl;
}

low-pair : (low : Bool) (n : ℕ) → 2 ≤ n → cond {A = ℕ} low 1 n ≡ 1 → cond {A = ℕ} low 1 2 ≡ 1
low-pair true n h e = refl
low-pair false n h e = absurd (omega (arith, h, e))

low-one : (t : Stride) (c : ℕ) → t ≢ Utf16 → len_utf8 c ≡ 1 → width_of t c ≡ 1
low-one Utf8 c h e = e
low-one Utf16 c h e = absurd (h refl)
low-one Pairs c h e = low-pair (nat_lt c 0x80) _ (grind arith) e
low-one Bytes c h e = refl

low-same : (t : Stride) (cs : List ℕ) → t ≢ Utf16 → IsEven Utf8 1 cs → IsSame Bytes t cs
low-same t [] h e = record { width = refl; items = λ _ _. refl }
low-same t (c ∷ cs) h e = same-more Bytes t c cs (sym (low-one t c h e.0)) (low-same t cs h e.1)

pub wider-same : (a b : Option Stride) (cs : List ℕ) → IsWider a b → HasStride a cs → IsSame (stride_of a) (stride_of b) cs
wider-same None None cs w h = record { width = refl; items = λ _ _. refl }
wider-same None (Some t) cs w h = low-same t cs w h
wider-same (Some s) b cs w h = rw w (record { width = refl; items = λ _ _. refl })

wider-has : (a b : Option Stride) (cs : List ℕ) → IsWider a b → HasStride a cs → HasStride b cs
wider-has None None cs w h = h
wider-has None (Some t) cs w h = tt
wider-has (Some s) b cs w h = rw w tt

has-append : (s : Option Stride) (cs ds : List ℕ) → HasStride s cs → HasStride s ds → HasStride s (cs ++ ds)
has-append None [] ds h g = g
has-append None (c ∷ cs) ds h g = (h.0, has-append None cs ds h.1 g)
has-append (Some s) cs ds h g = tt

pub plain-append : (s : Stride) (from : ℤ) (output : OutputState) (cs ds : List ℕ)
    → plain_items_from s from output (cs ++ ds) ≡ plain_items_from s from output cs ++ plain_items_from s (from +ℤ pos (run_width s cs)) output ds
plain-append s from output [] ds = ap (λ (z : ℤ). plain_items_from s z output ds) (at-start from)
plain-append s from output (c ∷ cs) ds =
    let place : from +ℤ pos (width_of s c) +ℤ pos (run_width s cs) ≡ from +ℤ pos (width_of s c + run_width s cs) = omega (arith, ints) in
    rw (plain-append s (from +ℤ pos (width_of s c)) output cs ds, place) refl

-- ---- under way

-- a part that is a tail
module _ (t : PlainTail) (p : PlainPart) (cs ds : List ℕ) (before : t.before ≡ length cs) (from : t.from ≡ p.from) (end : t.end ≡ p.end)
    (output : t.output ≡ p.output) (wider : IsWider t.stride (Some p.stride)) (long : HasStride t.stride ds) (part : IsPart p ds) where
  behind : drop t.before (cs ++ ds) ≡ ds
  behind = ap (λ (n : ℕ). drop n (cs ++ ds)) before ∙ drop-append_seam cs ds

  pub tail-begins : IsTail t (cs ++ ds)
  tail-begins =
      record {
        within = omega (arith, before, length-append cs ds);
        end = rw (behind, end, part.end, from, (wider-same t.stride (Some p.stride) ds wider long).width) refl;
        long = rw behind long;
      }

  pub tail-first : tail_items (Some t) (cs ++ ds) ≡ part_items p ds
  tail-first = rw (behind, (wider-same t.stride (Some p.stride) ds wider long).items t.from t.output, from, output) refl

-- a tail with a part after it
module _ (t u : PlainTail) (p : PlainPart) (needed : Option Stride) (cs ds : List ℕ) (tail : IsTail t cs) (part : IsPart p ds)
    (before : u.before ≡ t.before) (from : u.from ≡ t.from) (end : u.end ≡ p.end) (output : u.output ≡ t.output)
    (meets : t.end ≡ p.from) (like : t.output ≡ p.output) (first : IsWider t.stride u.stride) (second : IsWider needed u.stride)
    (wider : IsWider needed (Some p.stride)) (long : HasStride needed ds) where
  grown : drop u.before (cs ++ ds) ≡ drop t.before cs ++ ds
  grown = ap (λ (n : ℕ). drop n (cs ++ ds)) before ∙ drop-append-le t.before cs ds tail.within

  front : IsSame (stride_of t.stride) (stride_of u.stride) (drop t.before cs)
  front = wider-same t.stride u.stride (drop t.before cs) first tail.long

  back : IsSame (stride_of needed) (stride_of u.stride) ds
  back = wider-same needed u.stride ds second long

  own : IsSame (stride_of needed) p.stride ds
  own = wider-same needed (Some p.stride) ds wider long

  width : run_width (stride_of u.stride) (drop u.before (cs ++ ds)) ≡ run_width (stride_of t.stride) (drop t.before cs) + run_width p.stride ds
  width =
      let all = ap (run_width (stride_of u.stride)) grown ∙ run-append (stride_of u.stride) (drop t.before cs) ds in
      omega (arith, all, front.width, back.width, own.width)

  pub tail-grows : IsTail u (cs ++ ds)
  tail-grows = record {
    within = omega (arith, before, tail.within, length-append cs ds);
    end = omega (arith, ints, end, part.end, from, meets, tail.end, width);
    long = rw grown (has-append u.stride (drop t.before cs) ds (wider-has t.stride u.stride _ first tail.long) (wider-has needed u.stride ds second long));
  }

  pub tail-more : tail_items (Some u) (cs ++ ds) ≡ tail_items (Some t) cs ++ part_items p ds
  tail-more =
      let place : t.from +ℤ pos (run_width (stride_of u.stride) (drop t.before cs)) ≡ p.from = omega (arith, ints, front.width, tail.end, meets) in
      rw (grown, from, output, front.items t.from t.output, ← own.items p.from p.output, back.items p.from p.output, ← place, ← like)
      (plain-append (stride_of u.stride) t.from t.output (drop t.before cs) ds)

-- ---- their numbers

pub plain-scalars : (s : Stride) (from : ℤ) (output : OutputState) (cs : List ℕ) → all_scalars (plain_items_from s from output cs) ≡ length cs
plain-scalars s from output [] = refl
plain-scalars s from output (c ∷ cs) = omega (arith, plain-scalars s (from +ℤ pos (width_of s c)) output cs)

pub plain-length : (s : Stride) (from : ℤ) (output : OutputState) (cs : List ℕ) → length (plain_items_from s from output cs) ≡ length cs
plain-length s from output [] = refl
plain-length s from output (c ∷ cs) = omega (arith, plain-length s (from +ℤ pos (width_of s c)) output cs)

-- none ends before their start
pub before-none : (s : Stride) (from limit : ℤ) (output : OutputState) (cs : List ℕ) → limit <ℤ from
    → scalars_before limit (plain_items_from s from output cs) ≡ 0
before-none s from limit output [] h = refl
before-none s from limit output (c ∷ cs) h =
    let end = from +ℤ pos (width_of s c) in
    let far : le_z end limit ≡ false = grind (arith, ints, h) in
    rw far (omega (arith, before-none s end limit output cs (grind (arith, ints, h))))

pub before-plain : (s : Stride) (from limit : ℤ) (output : OutputState) (cs : List ℕ) (width : ℕ) → limit ≡ from +ℤ pos width
    → scalars_before limit (plain_items_from s from output cs) ≡ within (width_of s) cs width
before-plain s from limit output [] width e = refl
before-plain s from limit output (c ∷ cs) width e =
    let end = from +ℤ pos (width_of s c) in
    elim (cases_lt width (width_of s c)) [
      | inl l ↦
          let far : le_z end limit ≡ false = grind (arith, ints, e, l) in
          let short : nat_lt width (width_of s c) ≡ true = grind (arith, nat_tests, l) in
          rw (far, short) (omega (arith, before-none s end limit output cs (grind (arith, ints, e, l))))
      | inr g ↦
          let near : le_z end limit ≡ true = grind (arith, ints, e, g) in
          let long : nat_lt width (width_of s c) ≡ false = grind (arith, nat_tests, g) in
          let place : limit ≡ end +ℤ pos (width - width_of s c) = omega (arith, ints, e, g) in
          rw (near, long) (omega (arith, before-plain s end limit output cs (width - width_of s c) place))
    ]

-- as many end within a width
pub within-twice : (cs : List ℕ) (n : ℕ) → within utf16_width cs (n / 2) ≡ within (width_of Utf16) cs n
within-twice [] n = refl
within-twice (c ∷ cs) n =
    let w = utf16_width c in
    elim (cases_lt n (2 * w)) [
      | inl l ↦
          let short : nat_lt (n / 2) w ≡ true = grind (arith, nat_tests, half-below n w l) in
          let none : nat_lt n (2 * w) ≡ true = grind (arith, nat_tests, l) in
          rw (short, none) refl
      | inr g ↦
          let long : nat_lt (n / 2) w ≡ false = grind (arith, nat_tests, half-above n w g) in
          let some : nat_lt n (2 * w) ≡ false = grind (arith, nat_tests, g) in
          rw (long, some, half-less n w g, within-twice cs (n - 2 * w)) refl
    ]
  where
    half-below : (n w : ℕ) → n < 2 * w → n / 2 < w
    half-below n w l = omega (arith, l)

    half-above : (n w : ℕ) → 2 * w ≤ n → w ≤ n / 2
    half-above n w g = omega (arith, g)

    half-less : (n w : ℕ) → 2 * w ≤ n → n / 2 - w ≡ (n - 2 * w) / 2
    half-less n w g = omega (arith, g)

pub within-bytes : (cs : List ℕ) (n : ℕ) → min (length cs) n ≡ within (width_of Bytes) cs n
within-bytes [] n = omega arith
within-bytes (c ∷ cs) zero = omega arith
within-bytes (c ∷ cs) (suc n) =
    let some : nat_lt (suc n) 1 ≡ false = grind (arith, nat_tests) in
    let less : suc n - 1 ≡ n = omega arith in
    rw (some, less) (omega (arith, within-bytes cs n))

-- ---- one of them

-- a list of one
pub record Single (xs : List ℕ) : Type 0 where
  pub only : ℕ
  pub is : xs ≡ only ∷ []

pub single : (xs : List ℕ) → length xs ≡ 1 → Single xs
single [] e = absurd (omega (arith, e))
single (c ∷ []) e = record { only = c; is = refl }
single (c ∷ d ∷ xs) e = absurd (omega (arith, e))

pub first-length : (bytes front cs : List ℕ) (s : Single front) → bytes ≡ encode_utf8_all (take 1 cs) → front ≡ take 1 cs → length bytes ≡ len_utf8 s.only
first-length bytes front cs s bytes_is front_is =
    let all = ap length bytes_is ∙ ap (λ (xs : List ℕ). length (encode_utf8_all xs)) (sym front_is ∙ s.is) in
    omega (arith, all, width-encodes (s.only ∷ []))

next-found : (s : Stride) (from : ℤ) (output : OutputState) (c : ℕ) (cs : List ℕ) (n : ℕ) → item_of (plain_items_from s from output (c ∷ cs)) (suc n)
    ≡ option_map (λ k. k + 1) (item_of (plain_items_from s (from +ℤ pos (width_of s c)) output cs) n)
next-found s from output c cs n =
    let test : nat_lt (suc n) 1 ≡ false = grind (arith, nat_tests) in
    let less : suc n - 1 ≡ n = omega arith in
    rw (test, less) refl

pub found-plain : (s : Stride) (from : ℤ) (output : OutputState) (cs : List ℕ) (n : ℕ) → n < length cs → item_of (plain_items_from s from output cs) n ≡ Some n
found-plain s from output [] n h = absurd (omega (arith, h))
found-plain s from output (c ∷ cs) zero h = refl
found-plain s from output (c ∷ cs) (suc n) h =
    rw (next-found s from output c cs n, found-plain s (from +ℤ pos (width_of s c)) output cs n (omega (arith, h))) (ap Some (omega arith))

pub not-found-plain : (s : Stride) (from : ℤ) (output : OutputState) (cs : List ℕ) (n : ℕ) → length cs ≤ n
    → item_of (plain_items_from s from output cs) n ≡ None
not-found-plain s from output [] n h = refl
not-found-plain s from output (c ∷ cs) zero h = absurd (omega (arith, h))
not-found-plain s from output (c ∷ cs) (suc n) h =
    rw (next-found s from output c cs n, not-found-plain s (from +ℤ pos (width_of s c)) output cs n (omega (arith, h))) refl

pub get-plain : (s : Stride) (from : ℤ) (output : OutputState) (cs : List ℕ) (k c : ℕ) (rest : List ℕ) → drop k cs ≡ c ∷ rest
    → slice_get (plain_items_from s from output cs) k ≡ Some (item_behind from output (run_width s (take k cs) + width_of s c))
get-plain s from output [] zero c rest e = absurd cc
get-plain s from output [] (suc k) c rest e = absurd cc
get-plain s from output (d ∷ cs) zero c rest e =
    let same : d ≡ c = cc in
    ap (λ (x : ℕ). Some (item_behind from output (width_of s x))) same ∙ ap (λ (n : ℕ). Some (item_behind from output n)) (omega arith)
get-plain s from output (d ∷ cs) (suc k) c rest e =
    get-plain s (from +ℤ pos (width_of s d)) output cs k c rest e
    ∙ ap (λ (z : ℤ). Some (record { scalars = 1; end = z; error = false; output = output })) (omega (arith, ints))

pub no-plain : (s : Stride) (from : ℤ) (output : OutputState) (cs : List ℕ) (k : ℕ) → length cs ≤ k → slice_get (plain_items_from s from output cs) k ≡ None
no-plain s from output cs k h = slice_get_past (plain_items_from s from output cs) k (omega (arith, h, plain-length s from output cs))

-- ---- as runs

pub runs-plain : (s : Stride) (kind : ItemKind) (from : ℤ) (output : OutputState) (cs : List ℕ)
    → ((end : ℤ) → item_of_kind kind end ≡ record { scalars = 1; end = end; error = false; output = output })
    → items_of_runs (plain_runs s kind from cs) ≡ plain_items_from s from output cs
runs-plain s kind from output [] one = refl
runs-plain s kind from output (c ∷ cs) one =
    rw (one (from +ℤ pos (width_of s c)), runs-plain s kind (from +ℤ pos (width_of s c)) output cs one) refl

-- ---- behind others

pub plain-errors : (front : List Ended) (s : Stride) (from : ℤ) (output : OutputState) (cs : List ℕ)
    → errors_in (front ++ plain_items_from s from output cs) ≡ errors_in front
plain-errors front s from output cs =
    omega (arith, errors-append front (plain_items_from s from output cs), plain-no-errors s from output cs)

pub tail-no-errors : (t : Option PlainTail) (cs : List ℕ) → errors_in (tail_items t cs) ≡ 0
tail-no-errors None cs = refl
tail-no-errors (Some t) cs = plain-no-errors (stride_of t.stride) t.from t.output (drop t.before cs)

pub settled-no-errors : (settled front : List Ended) (t : Option PlainTail) (cs : List ℕ) → settled ≡ front ++ tail_items t cs → errors_in front ≡ 0
    → errors_in settled ≡ 0
settled-no-errors settled front t cs e none = no-errors-more front settled (tail_items t cs) e none (tail-no-errors t cs)

-- what a tail takes follows all that there was
pub tail-taken : (front : List Ended) (t u : Option PlainTail) (old new add : List ℕ) (run : List Ended) → new ≡ old ++ add
    → tail_items u (old ++ add) ≡ tail_items t old ++ run → front ++ tail_items u new ≡ (front ++ tail_items t old) ++ run
tail-taken front t u old new add run e f =
    rw (e, f, append_assoc) refl

-- the items are one run, and no code point of the text follows it
pub none-behind : (front items : List Ended) (s : Stride) (from : ℤ) (output : OutputState) (text : List ℕ) (before : ℕ) → before ≡ all_scalars front
    → before ≤ length text → items ≡ front ++ plain_items_from s from output (drop before text) → drop (all_scalars items) text ≡ []
none-behind front items s from output text before e within is =
    let count : all_scalars items ≡ length text = rw (is, scalars-append, plain-scalars) (omega (arith, length-drop before text)) in
    drop_all (all_scalars items) text (omega (arith, count))

module _ (front : List Ended) (s : Stride) (from : ℤ) (output : OutputState) (cs : List ℕ) where
  abbrev rest-items : List Ended
  rest-items = plain_items_from s from output cs

  pub get-behind : (k c : ℕ) (rest : List ℕ) → length front ≤ k → drop (k - length front) cs ≡ c ∷ rest
      → slice_get (front ++ plain_items_from s from output cs) k ≡ Some (item_behind from output (run_width s (take (k - length front) cs) + width_of s c))
  get-behind k c rest past e = get-back front rest-items k past ∙ get-plain s from output cs (k - length front) c rest e

  pub none-past : (k : ℕ) → length front ≤ k → length cs ≤ k - length front → slice_get (front ++ plain_items_from s from output cs) k ≡ None
  none-past k past far = get-back front rest-items k past ∙ no-plain s from output cs (k - length front) far

  pub found-behind : (n count : ℕ) → count ≡ length front → all_scalars front ≤ n → n - all_scalars front < length cs
      → item_of (front ++ plain_items_from s from output cs) n ≡ Some (count + (n - all_scalars front))
  found-behind n count e past few =
      rw (back-item front rest-items n past, found-plain s from output cs (n - all_scalars front) few) (ap Some (omega (arith, e)))

  pub not-found-behind : (n : ℕ) → all_scalars front ≤ n → length cs ≤ n - all_scalars front → item_of (front ++ plain_items_from s from output cs) n ≡ None
  not-found-behind n past far = rw (back-item front rest-items n past, not-found-plain s from output cs (n - all_scalars front) far) refl

  pub all-behind : all_scalars (front ++ plain_items_from s from output cs) ≡ all_scalars front + length cs
  all-behind = omega (arith, scalars-append front rest-items, plain-scalars s from output cs)

  pub before-behind : (limit : ℤ) (width : ℕ) → limit ≡ from +ℤ pos width
      → scalars_before limit (front ++ plain_items_from s from output cs) ≡ scalars_before limit front + within (width_of s) cs width
  before-behind limit width e = omega (arith, before-append limit front rest-items, before-plain s from limit output cs width e)

  pub before-front : (limit : ℤ) → limit <ℤ from → scalars_before limit (front ++ plain_items_from s from output cs) ≡ scalars_before limit front
  before-front limit h = omega (arith, before-append limit front rest-items, before-none s from limit output cs h)

pub plain-last : (s : Stride) (from : ℤ) (output : OutputState) (cs : List ℕ) → 0 < length cs
    → slice_get (plain_items_from s from output cs) (length (plain_items_from s from output cs) - 1) ≡ Some (item_behind from output (run_width s cs))
plain-last s from output [] some = absurd (omega (arith, some))
plain-last s from output (c ∷ []) some = ap (λ (n : ℕ). Some (item_behind from output n)) (omega arith)
plain-last s from output (c ∷ d ∷ cs) some =
    let end = from +ℤ pos (width_of s c) in
    let rest = plain_items_from s end output (d ∷ cs) in
    let items = plain_items_from s from output (c ∷ d ∷ cs) in
    let less : length items - 1 ≡ suc (length rest - 1) = omega arith in
    ap (slice_get items) less ∙ plain-last s end output (d ∷ cs) (omega arith)
    ∙ ap (λ (z : ℤ). Some (record { scalars = 1; end = z; error = false; output = output })) (omega (arith, ints))

pub last-plain : (front : List Ended) (s : Stride) (from : ℤ) (output : OutputState) (cs : List ℕ) → 0 < length cs
    → slice_get (front ++ plain_items_from s from output cs) (length (front ++ plain_items_from s from output cs) - 1)
    ≡ Some (item_behind from output (run_width s cs))
last-plain front s from output cs some = last-behind front (plain_items_from s from output cs) _ (plain-last s from output cs some)

pub front-few : (f : Option Run) → length (items_of_last f) ≤ all_scalars (items_of_last f)
front-few None = omega arith
front-few (Some r) = length-few-until r.kind r.step r.last (suc r.more)

pub runs-front : (f : Option Run) → items_of_runs (runs_of_last f) ≡ items_of_last f
runs-front None = refl
runs-front (Some r) = append-nil (items_of_run r)

pub next-width : (s : Stride) (cs : List ℕ) (k c : ℕ) (rest : List ℕ) → drop k cs ≡ c ∷ rest → run_width s (take k cs) + width_of s c ≤ run_width s cs
next-width s cs k c rest e =
    omega (arith, run-append s (take k cs) (drop k cs), ap (run_width s) (take-append-drop k cs), ap (run_width s) e)

pub some-chars : (cs : List ℕ) (n : ℕ) → n ≡ total_width utf8_width cs → 0 < n → 0 < length cs
some-chars [] n e some = absurd (omega (arith, e, some))
some-chars (c ∷ cs) n e some = omega arith

-- what is gathered of bytes that are their own text is what is shown of them
pub own-shown : {S : Type 0} (table : Table S) (output : S → OutputState) (state : S) (bytes text : List ℕ) → text ≡ bytes
    → IsOwnText table state bytes (length bytes)
    → own_gathered (output state) (chars text) ≡ fold (with_shown output) no_item (shown_from table 0 state bytes)
own-shown table output state bytes text text_is own =
    let shown = rw (take_all (length bytes) bytes (omega arith)) at (own.items 0) in
    rw (text_is, shown) (sym (fold-plain output Utf8 (pos 0) state (chars bytes) no_item))

pub own-stays : {S : Type 0} (table : Table S) (state : S) (bytes : List ℕ) → IsOwnText table state bytes (length bytes)
    → state ≡ (feed table state bytes).state
own-stays table state bytes own = sym (rw (take_all (length bytes) bytes (omega arith)) at own.stays)

pub own-part : (output : OutputState) (text : List ℕ) (count : ℕ) (end : ℤ) → IsUtf8 text → count ≡ length (chars text) → end ≡ pos (length text)
    → IsPart (record { count = count; len = length text; from = pos 0; end = end; stride = Utf8; output = output }) (chars text)
own-part output text count end u count_is end_is = record {
  count = count_is;
  len = width-chars text u;
  end = omega (arith, ints, end_is, width-chars text u, utf8-run (chars text));
}
