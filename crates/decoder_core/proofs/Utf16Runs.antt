-- Runs of UTF-16 without lone surrogates: each code point is an item, and leaves nothing pending.
use Rattle.std.proofs.Common.{◌≡◌, ℕ, zero, suc, ◌+◌, ◌-◌, ◌*◌, ◌/◌, ◌%◌, ◌<◌, ◌≤◌, Bool, true, false, List, [], ◌∷◌, ◌++◌, Some, None, Ok, Err, Result, Option}
use Rattle.std.proofs.Common.{if◌then◌else◌, nat_le, take, drop, get_or, set, append_assoc, length, refl, sym, ap, ◌∙◌, arith, ◌⊎◌, inl, inr}
use Rattle.decoder_core.proofs.Prelude.{le-leb, lt-leb, lt-ltb, le-ltb, leb-true, and_parts, cases_lt, scalar, scalars, scalar_cases, chars, encode_utf8_all}
use Rattle.decoder_core.proofs.Prelude.{length-take-le, take-take, drop_more, take_more_set, take-append_seam, chars-encodes, One, BigEndian, LittleEndian}
use Rattle.decoder_core.proofs.Prelude.{IsBulk, run_width, holds, falls_of, Falls, utf16, utf16_start, utf16_single, unit_of, units_of, pair_code_point}
use Rattle.decoder_core.{proofs.Prelude.utf16_holding, specs.declared.utf16.ByteOrder.ByteOrder, specs.Forms.gives}
use Rattle.decoder_core.specs.declared.bulk.Stride.TheVariants.{Utf8 as by_utf8, Utf16 as by_utf16}
use Rattle.decoder_core.proofs.ItemWidths.{utf8-width, narrow, most}
use Rattle.decoder_core.proofs.Turning.{Passes, given, held, ArePassed, passed-shown, passed-stays}
use Rattle.lane_utf.specs.declared.faults.ToUtf8Fault.{ToUtf8Fault, TheVariants.NeedsRoom as needs_room}
use Rattle.lane_utf.specs.Conversions.{over_front, utf8_answer, utf8_answer_of}
use Rattle.lane_utf.specs.{Utf16.code_points, Utf16.utf16_forms, Utf16.first_lone, Widths.total_width, Widths.utf8_width}
use Rattle.lane_ascii.specs.Pairs.{swapped}

abbrev falls : (order : ByteOrder) → Falls (utf16 order)
falls order = falls_of _ (utf16_holding order)

-- ---- single units and pairs

single-turn : (c : ℕ) → (c < 55296) ⊎ (57344 ≤ c) → utf16_single c ≡ gives utf16_start (One c) []
single-turn c (inl l) = rw (lt-leb 0xD800 c l, lt-leb 0xDC00 c (omega (arith, l))) refl
single-turn c (inr l) =
    rw (le-leb 0xD800 c (omega (arith, l)), lt-leb c 0xDBFF (omega (arith, l)), le-leb 0xDC00 c (omega (arith, l)), lt-leb c 0xDFFF (omega (arith, l))) refl

abbrev lead_of : ℕ → ℕ
lead_of c = 0xD800 + (c - 0x10000) / 0x400

abbrev trail_of : ℕ → ℕ
trail_of c = 0xDC00 + (c - 0x10000) % 0x400

module _ (order : ByteOrder) where
  one-turn : (a b c : ℕ) → unit_of order a b ≡ c → (c < 55296) ⊎ (57344 ≤ c)
      → utf16 order (record { lead_byte = Some a; lead_surrogate = None }) (Some b) ≡ gives utf16_start (One c) []
  one-turn a b c unit range = rw unit (single-turn c range)

  first-turn : (a b c : ℕ) → unit_of order a b ≡ lead_of c → 65536 ≤ c → c < 1114112
      → utf16 order (record { lead_byte = Some a; lead_surrogate = None }) (Some b) ≡ holds (record { lead_byte = None; lead_surrogate = Some (lead_of c) })
  first-turn a b c unit low high = rw (unit, le-leb 0xD800 (lead_of c) (omega arith), le-leb (lead_of c) 0xDBFF (omega arith))

  second-turn : (a b c : ℕ) → unit_of order a b ≡ trail_of c → 65536 ≤ c → c < 1114112
      → utf16 order (record { lead_byte = Some a; lead_surrogate = Some (lead_of c) }) (Some b) ≡ gives utf16_start (One c) []
  second-turn a b c unit low high =
      let same : pair_code_point (lead_of c) (trail_of c) ≡ c = omega arith in
      rw (unit, le-leb 0xDC00 (trail_of c) (omega arith), le-leb (trail_of c) 0xDFFF (omega arith), same)

  abbrev Passed : List ℕ → ℕ → Type 0
  Passed bytes c = Passes (falls order) utf16_start utf16_start bytes c

  unit : (a b c : ℕ) → unit_of order a b ≡ c → (c < 55296) ⊎ (57344 ≤ c) → Passed (a ∷ b ∷ []) c
  unit a b c is range = held (falls order) refl (given (falls order) (one-turn a b c is range))

  pair : (a b d e c : ℕ) → unit_of order a b ≡ lead_of c → unit_of order d e ≡ trail_of c → 65536 ≤ c → c < 1114112 → Passed (a ∷ b ∷ d ∷ e ∷ []) c
  pair a b d e c lead trail low high =
      let second = held (falls order) refl (given (falls order) (second-turn d e c trail low high)) in
      held (falls order) refl (held (falls order) (first-turn a b c lead low high) second)

  -- ---- the bytes of some units

  -- the bytes of the first of some units, and those of the others
  abbrev Cut : List ℕ → ℕ → List ℕ → Type 0
  Cut bytes u us =
      (a : ℕ) × (b : ℕ) × (q : List ℕ) × (bytes ≡ a ∷ b ∷ q) × (unit_of order a b ≡ u) × (units_of order q ≡ us)
      × (length q ≡ 2 * length (units_of order q))

  cut : (bytes : List ℕ) (u : ℕ) (us : List ℕ) → length bytes ≡ 2 * length (units_of order bytes) → units_of order bytes ≡ u ∷ us → Cut bytes u us
  cut [] u us even is = absurd (omega (arith, ap (λ (xs : List ℕ). length xs) is))
  cut (a ∷ []) u us even is = absurd (omega (arith, even))
  cut (a ∷ b ∷ q) u us even is = (a, b, q, refl, ap (λ (xs : List ℕ). get_or xs 0 0) is, ap (λ (xs : List ℕ). drop 1 xs) is, omega (arith, even))

  -- ---- runs

  utf16-passed : (cs bytes : List ℕ) → scalars cs ≡ true → length bytes ≡ 2 * length (units_of order bytes) → units_of order bytes ≡ utf16_forms cs
      → ArePassed (falls order) utf16_start by_utf16 cs bytes
  utf16-passed [] [] are even is = refl
  utf16-passed [] (a ∷ []) are even is = absurd (omega (arith, even))
  utf16-passed [] (a ∷ b ∷ q) are even is = absurd (omega (arith, ap (λ (xs : List ℕ). length xs) is))
  utf16-passed (c ∷ cs) bytes are even is =
      let two = and_parts (scalar c) (scalars cs) are in
      let range = scalar_cases c two.0 in
      elim (cases_lt c 65536) [
        | inl low ↦
            let p = cut bytes c (utf16_forms cs) even (rw (lt-ltb c 65536 low) at is) in
            (p.0 ∷ p.1 ∷ [], p.2, p.3, unit p.0 p.1 c p.4 (narrow c range), rw (lt-ltb c 65536 low) refl, utf16-passed cs p.2 two.1 p.6 p.5)
        | inr high ↦
            let p = cut bytes (lead_of c) (trail_of c ∷ utf16_forms cs) even (rw (le-ltb c 65536 high) at is) in
            let s = cut p.2 (trail_of c) (utf16_forms cs) p.6 p.5 in (
              p.0 ∷ p.1 ∷ s.0 ∷ s.1 ∷ [],
              s.2,
              p.3 ∙ ap (λ (xs : List ℕ). p.0 ∷ p.1 ∷ xs) s.3,
              pair p.0 p.1 s.0 s.1 c p.4 s.4 high (most c range),
              rw (le-ltb c 65536 high) refl,
              utf16-passed cs s.2 two.1 s.6 s.5,
            )
      ]

  utf16-bytes : (cs : List ℕ) → run_width by_utf16 cs ≡ 2 * length (utf16_forms cs)
  utf16-bytes [] = refl
  utf16-bytes (c ∷ cs) =
      let rest = utf16-bytes cs in
      elim (cases_lt c 65536) [ inl low ↦ rw (lt-ltb c 65536 low) (omega (arith, rest)) | inr high ↦ rw (le-ltb c 65536 high) (omega (arith, rest)) ]

  -- ---- units in a slice

  pub units-length : (n : ℕ) (xs : List ℕ) → 2 * n ≤ length xs → length (units_of order (take (2 * n) xs)) ≡ n
  units-length zero xs within = refl
  units-length (suc n) [] within = absurd (omega (arith, within))
  units-length (suc n) (a ∷ []) within = absurd (omega (arith, within))
  units-length (suc n) (a ∷ b ∷ xs) within =
      let two : 2 * suc n ≡ suc (suc (2 * n)) = omega arith in
      rw (two, units-length n xs (omega (arith, within)))

  pub units-take : (n : ℕ) (xs : List ℕ) → take n (units_of order xs) ≡ units_of order (take (2 * n) xs)
  units-take zero xs = refl
  units-take (suc n) [] = let two : 2 * suc n ≡ suc (suc (2 * n)) = omega arith in rw two refl
  units-take (suc n) (a ∷ []) = let two : 2 * suc n ≡ suc (suc (2 * n)) = omega arith in rw two refl
  units-take (suc n) (a ∷ b ∷ xs) =
      let two : 2 * suc n ≡ suc (suc (2 * n)) = omega arith in
      rw (two, units-take n xs)

  -- units that were read of a longer slice
  pub units-front : (n count : ℕ) (bytes units : List ℕ) → n ≤ count → take count units ≡ units_of order (take (2 * count) bytes)
      → take n units ≡ units_of order (take (2 * n) bytes)
  units-front n count bytes units less read =
      rw (← take-take n count units less, read, units-take n (take (2 * count) bytes), take-take (2 * n) (2 * count) bytes (omega (arith, less)))

  even-take : (n : ℕ) (xs : List ℕ) → 2 * n ≤ length xs → length (take (2 * n) xs) ≡ 2 * length (units_of order (take (2 * n) xs))
  even-take n xs within = rw (units-length n xs within) (length-take-le (2 * n) xs within)

  pub units-more : (at : ℕ) (xs : List ℕ) → 2 * at + 1 < length xs
      → units_of order (drop (2 * at) xs) ≡ unit_of order (get_or xs (2 * at) 0) (get_or xs (2 * at + 1) 0) ∷ units_of order (drop (2 * (at + 1)) xs)
  units-more at xs within =
      let next : 2 * at + 1 + 1 ≡ 2 * (at + 1) = omega arith in
      rw (drop_more xs (2 * at) 0 (omega (arith, within)), drop_more xs (2 * at + 1) 0 within, next)

  -- one unit more was read
  pub read-more : (at unit : ℕ) (xs units : List ℕ) → 2 * at + 1 < length xs → at < length units
      → unit ≡ unit_of order (get_or xs (2 * at) 0) (get_or xs (2 * at + 1) 0)
      → units_of order xs ≡ take at units ++ units_of order (drop (2 * at) xs)
      → units_of order xs ≡ take (at + 1) (set units at unit) ++ units_of order (drop (2 * (at + 1)) xs)
  read-more at unit xs units within inside unit_is so_far =
      rw (take_more_set units at unit inside, append_assoc, unit_is) (rw (units-more at xs within) at so_far)

  -- ---- what was converted

  abbrev value : Result ℕ ToUtf8Fault → ℕ
  value (Ok n) = n
  value (Err f) = 0

  answered-by : (k : Bool) (needed n : ℕ) → Ok n ≡ (if k then Ok needed else Err (needs_room needed)) → (k ≡ true) × (n ≡ needed)
  answered-by true needed n e = (refl, ap value e)
  answered-by false needed n e = absurd Prim.cc

  answered : (lone : Option ℕ) (needed room n : ℕ) → Ok n ≡ utf8_answer_of lone needed room → (needed ≤ room) × (n ≡ needed)
  answered (Some at) needed room n e = absurd Prim.cc
  answered None needed room n e = let p = answered-by (nat_le needed room) needed n e in (leb-true needed room p.0, p.1)

  total-run : (cs : List ℕ) → total_width utf8_width cs ≡ run_width by_utf8 cs
  total-run [] = refl
  total-run (c ∷ cs) = rw (total-run cs)

  pub utf16_is_bulk : (bytes units block old : List ℕ) (n written room : ℕ) → 2 * n ≤ length bytes → room ≡ 1024 → units ≡ units_of order (take (2 * n) bytes)
      → Ok written ≡ utf8_answer units room → scalars (code_points units) ≡ true → utf16_forms (code_points units) ≡ units
      → block ≡ over_front (encode_utf8_all (code_points units)) old
      → IsBulk (utf16 order) utf16_start bytes (record { taken = 2 * n; written = written; stride = by_utf16 }) block
  utf16_is_bulk bytes units block old n written room within large units_is answer are form block_is =
      let cs = code_points units in
      let front = take (2 * n) bytes in
      let p = answered (first_lone units) (total_width utf8_width cs) room written answer in
      let length_is : written ≡ length (encode_utf8_all cs) = p.1 ∙ total-run cs ∙ utf8-width cs in
      let text : take written block ≡ encode_utf8_all cs = rw (length_is, block_is) (take-append_seam (encode_utf8_all cs) _) in
      let valid : chars (take written block) ≡ cs = rw text (chars-encodes cs are) in
      let even = even-take n bytes within in
      let is : units_of order front ≡ utf16_forms cs = sym units_is ∙ sym form in
      record {
        within = within;
        room = omega (arith, p.0, p.1, large);
        text = rw text (cs, (are, refl));
        stays = passed-stays (falls order) utf16_start by_utf16 cs front (utf16-passed cs front are even is);
        whole = rw (valid, utf16-bytes cs, ← is, units-length n bytes within);
        items = λ read. rw valid (passed-shown (falls order) utf16_start by_utf16 cs front (utf16-passed cs front are even is) read);
      }

-- the bytes of each unit swapped are the units in the other order
pub swapped-units : (xs : List ℕ) → units_of LittleEndian (swapped xs) ≡ units_of BigEndian xs
swapped-units [] = refl
swapped-units (a ∷ []) = refl
swapped-units (a ∷ b ∷ xs) = rw (swapped-units xs)
