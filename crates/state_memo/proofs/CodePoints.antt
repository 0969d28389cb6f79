-- Texts whose code points are items without gaps.
use Rattle.std.proofs.Common.{◌≡◌, refl, sym, ap, ◌∙◌, ℕ, suc, ◌+◌, ◌*◌, ◌≤◌, List, [], ◌∷◌, append_assoc, length, fold, arith, ℤ, pos, ◌+ℤ◌, ◌-ℤ◌}
use Rattle.std.proofs.{Common.false, Common.nat_lt, Math.Nat.mul-suc, Math.Nat.suc-mul}
use Rattle.decoder_core.specs.Bulk.{width_of, run_width, plain_from}
use Rattle.state_memo.specs.Gathering.{Gathered, with_item, with_shown, with_more, plain_items_from, plain_items, IsEven}
use Rattle.state_memo.proofs.Prelude.{ints, len_utf8_bounds, len_utf8, utf8_width, utf16_width, pair_width, total_width, Stride, One, OutputState}
use Rattle.state_memo.proofs.Prelude.{ItemKind, errors_in, kept_item, item_of_kind, items_until, cond_both, Utf8, Utf16, Pairs, Bytes}
use Rattle.state_memo.proofs.{Gathered.more-nil, Splitting.first-until}

-- ---- their widths

pub utf8-run : (cs : List ℕ) → run_width Utf8 cs ≡ total_width utf8_width cs
utf8-run [] = refl
utf8-run (c ∷ cs) = ap (λ (n : ℕ). len_utf8 c + n) (utf8-run cs)

pub utf16-run : (cs : List ℕ) → run_width Utf16 cs ≡ 2 * total_width utf16_width cs
utf16-run [] = refl
utf16-run (c ∷ cs) = let rest = utf16-run cs in omega (arith, rest)

pub pairs-run : (cs : List ℕ) → run_width Pairs cs ≡ total_width pair_width cs
pairs-run [] = refl
pairs-run (c ∷ cs) = ap (λ (n : ℕ). width_of Pairs c + n) (pairs-run cs)

-- ---- as they are shown one by one

pub fold-plain : {S : Type 0} (output : S → OutputState) (stride : Stride) (from : ℤ) (after : S) (cs : List ℕ) (g : Gathered)
    → fold (with_shown output) g (plain_from stride from after cs) ≡ with_more g cs (plain_items_from stride from (output after) cs)
fold-plain output stride from after [] g = more-nil g
fold-plain output stride from after (c ∷ cs) g =
    let end = from +ℤ pos (width_of stride c) in
    rw (fold-plain output stride end after cs (with_item g (One c) end (output after)), append_assoc g.text, append_assoc g.items) refl

pub plain-no-errors : (stride : Stride) (from : ℤ) (output : OutputState) (cs : List ℕ) → errors_in (plain_items_from stride from output cs) ≡ 0
plain-no-errors stride from output [] = refl
plain-no-errors stride from output (c ∷ cs) = omega (arith, plain-no-errors stride (from +ℤ pos (width_of stride c)) output cs)

-- ---- each as long as the others

module _ (stride : Stride) (width : ℕ) where
  -- none is shorter than that, and so are they together
  at-least : ((c : ℕ) → width ≤ width_of stride c) → (cs : List ℕ) → width * length cs ≤ run_width stride cs
  at-least least [] = omega arith
  at-least least (c ∷ cs) = omega (arith, mul-suc width (length cs), at-least least cs, least c)

  even-least : ((c : ℕ) → width ≤ width_of stride c) → (cs : List ℕ) → run_width stride cs ≡ width * length cs → IsEven stride width cs
  even-least least [] e = tt
  even-least least (c ∷ cs) e =
      let more = mul-suc width (length cs) in
      (omega (arith, e, more, least c, at-least least cs), even-least least cs (omega (arith, e, more, least c, at-least least cs)))

  -- the same if none is longer
  at-most : ((c : ℕ) → width_of stride c ≤ width) → (cs : List ℕ) → run_width stride cs ≤ width * length cs
  at-most most [] = omega arith
  at-most most (c ∷ cs) = omega (arith, mul-suc width (length cs), at-most most cs, most c)

  even-most : ((c : ℕ) → width_of stride c ≤ width) → (cs : List ℕ) → run_width stride cs ≡ width * length cs → IsEven stride width cs
  even-most most [] e = tt
  even-most most (c ∷ cs) e =
      let more = mul-suc width (length cs) in
      (omega (arith, e, more, most c, at-most most cs), even-most most cs (omega (arith, e, more, most c, at-most most cs)))

pub even-run : (stride : Stride) (width : ℕ) (cs : List ℕ) → IsEven stride width cs → run_width stride cs ≡ length cs * width
even-run stride width [] e = omega arith
even-run stride width (c ∷ cs) e = omega (arith, e.0, even-run stride width cs e.1, suc-mul (length cs) width)

module _ (stride : Stride) (width : ℕ) (kind : ItemKind) (output : OutputState) (one : (c : ℕ) (end : ℤ)
    → item_of_kind kind end ≡ kept_item (One c) end output) where
  pub even-from : (from : ℤ) (cs : List ℕ) → IsEven stride width cs
      → plain_items_from stride from output cs ≡ items_until kind width (from +ℤ pos (length cs * width)) (length cs)
  even-from from [] e = refl
  even-from from (c ∷ cs) e =
      let end = from +ℤ pos (width_of stride c) in
      let last : from +ℤ pos (suc (length cs) * width) ≡ end +ℤ pos (length cs * width) = omega (arith, ints, e.0, suc-mul (length cs) width) in
      let first : (end +ℤ pos (length cs * width)) -ℤ pos (length cs * width) ≡ end = omega (arith, ints) in
      rw (last, first-until kind width (end +ℤ pos (length cs * width)) (length cs), first, one c end, even-from end cs e.1) refl

  pub even : (end : ℤ) (cs : List ℕ) → IsEven stride width cs → items_until kind width end (length cs) ≡ plain_items stride end output cs
  even end cs e =
      let last : (end -ℤ pos (run_width stride cs)) +ℤ pos (length cs * width) ≡ end = omega (arith, ints, even-run stride width cs e) in
      sym (rw last at (even-from (end -ℤ pos (run_width stride cs)) cs e))

least-width : (stride : Stride) (c : ℕ) → 1 ≤ width_of stride c
least-width Utf8 c = (len_utf8_bounds c).0
least-width Utf16 c = cond_both (nat_lt c 0x10000) 1 2 (λ n. 1 ≤ 2 * n) (λ _. omega arith) (λ _. omega arith)
least-width Pairs c = cond_both (nat_lt c 0x80) 1 2 (λ n. 1 ≤ n) (λ _. omega arith) (λ _. omega arith)
least-width Bytes c = omega arith

-- as many bytes as code points
pub ones-even : (stride : Stride) (n width : ℕ) (cs : List ℕ) → n ≡ length cs → width ≡ run_width stride cs → width ≡ n → IsEven stride 1 cs
ones-even stride n width cs count all same = even-least stride 1 (least-width stride) cs (omega (arith, count, all, same))

-- twice as many
pub units-even : (stride : Stride) (n width : ℕ) (cs : List ℕ) → stride ≡ Utf16 → n ≡ length cs → width ≡ run_width stride cs
    → width ≡ 2 * n → IsEven stride 2 cs
units-even stride n width cs is count all same =
    rw is (even-least Utf16 2 (λ c. cond_both (nat_lt c 0x10000) 1 2 (λ n. 2 ≤ 2 * n) (λ _. omega arith) (λ _. omega arith)) cs
    (omega (arith, count, rw is at all, same)))

pub pairs-even : (stride : Stride) (n width : ℕ) (cs : List ℕ) → stride ≡ Pairs → n ≡ length cs → width ≡ run_width stride cs
    → width ≡ 2 * n → IsEven stride 2 cs
pairs-even stride n width cs is count all same =
    rw is (even-most Pairs 2 (λ c. cond_both (nat_lt c 0x80) 1 2 (λ n. n ≤ 2) (λ _. omega arith) (λ _. omega arith)) cs
    (omega (arith, count, rw is at all, same)))

bytes-by : (cs : List ℕ) → IsEven Bytes 1 cs
bytes-by [] = tt
bytes-by (c ∷ cs) = (refl, bytes-by cs)

pub bytes-even : (stride : Stride) (cs : List ℕ) → stride ≡ Bytes → IsEven stride 1 cs
bytes-even stride cs e = rw e (bytes-by cs)

pub bytes-run : (cs : List ℕ) → length cs ≡ run_width Bytes cs
bytes-run [] = refl
bytes-run (c ∷ cs) = let rest = bytes-run cs in omega (arith, rest)

pub bytes-counted : (stride : Stride) (cs : List ℕ) (width : ℕ) → stride ≡ Bytes → width ≡ run_width stride cs → width ≡ length cs
bytes-counted stride cs width is all = (rw is at all) ∙ sym (bytes-run cs)

pub even-is : (stride : Stride) (kind : ItemKind) (output : OutputState)
    → ((end : ℤ) → item_of_kind kind end ≡ record { scalars = 1; end = end; error = false; output = output })
    → (end last : ℤ) (step more : ℕ) (cs : List ℕ) → IsEven stride step cs → last ≡ end → suc more ≡ length cs
    → items_until kind step last (suc more) ≡ plain_items stride end output cs
even-is stride kind output one end last step more cs all last_is count =
    ap (items_until kind step last) count ∙ rw last_is (even stride step kind output (λ c l. one l) end cs all)
