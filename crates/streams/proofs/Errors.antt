-- Errors that are found item by item, and part by part.
use Rattle.std.proofs.Common.{◌≡◌, refl, sym, ap, ◌∙◌, ℕ, zero, suc, ◌+◌, ◌-◌, ◌^◌, ◌<◌, ◌≤◌, inl, inr, Bool, true, false, ◌==◌, ◌&&◌, nat_lt, List, []}
use Rattle.std.proofs.Common.{◌∷◌, ◌++◌, if◌then◌else◌, length, take, arith, length-append, append-nil, append_assoc, take_all, fold, ℤ, pos, ◌+ℤ◌, ◌-ℤ◌}
use Rattle.std.proofs.lemmas.{Bool.cases_lt, Bool.Decides.nat_tests, List.take-append-le}
use Rattle.std.proofs.Common.{chars, encode_utf8_all, IsUtf8, subst}
use Rattle.std.proofs.lemmas.{Int.ints, Str.chars-nil, Str.encodes-chars}
use Rattle.std.specs.Int.{saturate_unsigned, w64}
use Rattle.lane_ascii.specs.Marks.{marks}
use Rattle.decoder_core.specs.declared.item.{Item.Item, Item.TheVariants.One, Item.TheVariants.Two, Item.TheVariants.Error, Ended.Ended}
use Rattle.decoder_core.specs.{declared.placed.Placed.Placed, Collected.last_end, Placed.places, Queue.further, Text.code_points, Text.item_code_points}
use Rattle.decoder_core.specs.{declared.bulk.Stride.Stride, Bulk.plain_from, Bulk.plain_to, Bulk.run_width, Bulk.width_of}
use Rattle.codec.specs.Texts.{ended_text}
use Rattle.streams.specs.declared.{counts.Counts.Counts, row.Found.Found}
use Rattle.streams.specs.Counting.{column_on, counted, no_counts}
use Rattle.streams.specs.Finding.{Places, found_after, found_among, found_if, marked, with_ended, with_found, with_item, with_shown}
use Rattle.streams.proofs.{Deciding.places-text, Numbers.at-start, Numbers.counted-append, Numbers.first-line, Showing.placed-at}

-- ---- the first of a list

pub take-front : {X : Type 0} (n : ℕ) (xs ys : List X) → take n (take n xs ++ ys) ≡ take n (xs ++ ys)
take-front zero xs ys = refl
take-front (suc n) [] ys = refl
take-front (suc n) (x ∷ xs) ys = ap (λ (zs : List _). x ∷ zs) (take-front n xs ys)

pub take-few : {X : Type 0} (n : ℕ) (xs : List X) → length (take n xs) ≤ n
take-few zero xs = omega arith
take-few (suc n) [] = omega arith
take-few (suc n) (x ∷ xs) = omega (arith, take-few n xs)

error-found : (most : ℕ) (found : List Found) (f : Found) → length found ≤ most
    → (if nat_lt (length found) most then found ++ f ∷ [] else found) ≡ take most (found ++ f ∷ [])
error-found most found f few =
    elim (cases_lt (length found) most) [
      | inl less ↦
          let is : nat_lt (length found) most ≡ true = grind (arith, nat_tests) in
          rw is (sym (take_all most (found ++ f ∷ []) (omega (arith, length-append found (f ∷ []), less))))
      | inr more ↦
          let is : nat_lt (length found) most ≡ false = grind (arith, nat_tests) in
          rw is (sym (take-append-le most found (f ∷ []) more ∙ take_all most found few))
    ]

none-found : (most : ℕ) (found : List Found) → length found ≤ most → found ≡ take most (found ++ [])
none-found most found few = sym (ap (take most) (append-nil found) ∙ take_all most found few)

pub is-found : (item : Item) (most : ℕ) (found : List Found) (f : Found) → length found ≤ most
    → with_found item most found f ≡ take most (found ++ found_if item f)
is-found (One c) most found f few = none-found most found few
is-found (Two a b) most found f few = none-found most found few
is-found Error most found f few = error-found most found f few

-- ---- the definition, over parts

pub found-append : (before : List ℕ) (ps qs : List Placed) → found_among before (ps ++ qs)
    ≡ found_among before ps ++ found_among (before ++ code_points ps) qs
found-append before [] qs = ap (λ (cs : List ℕ). found_among cs qs) (sym (append-nil before))
found-append before (p ∷ ps) qs =
    let first = found_if p.item (found_after before p.from p.to) in
    ap (λ (fs : List Found). first ++ fs) (found-append (before ++ item_code_points p.item) ps qs)
    ∙ ap (λ (cs : List ℕ). first ++ (found_among (before ++ item_code_points p.item) ps ++ found_among cs qs))
    (append_assoc before (item_code_points p.item) (code_points ps))
    ∙ sym (append_assoc first (found_among (before ++ item_code_points p.item) ps) (found_among (before ++ code_points (p ∷ ps)) qs))

pub places-append : (total from : ℕ) (xs ys : List Ended) → places total from (xs ++ ys) ≡ places total from xs ++ places total (last_end total from xs) ys
places-append total from [] ys = refl
places-append total from (x ∷ xs) ys =
    ap (λ (ps : List Placed). record { item = x.item; from = from; to = total - x.back } ∷ ps) (places-append total (total - x.back) xs ys)

pub last-append : (total from : ℕ) (xs ys : List Ended) → last_end total from (xs ++ ys) ≡ last_end total (last_end total from xs) ys
last-append total from [] ys = refl
last-append total from (x ∷ xs) ys = last-append total (total - x.back) xs ys

same-end : (total n back : ℕ) → total + n - (back + n) ≡ total - back
same-end total n back = omega arith

pub places-moved : (total n from : ℕ) (es : List Ended) → places (total + n) from (further n es) ≡ places total from es
places-moved total n from [] = refl
places-moved total n from (e ∷ es) = rw (same-end total n e.back, places-moved total n (total - e.back) es) refl

pub last-moved : (total n from : ℕ) (es : List Ended) → last_end (total + n) from (further n es) ≡ last_end total from es
last-moved total n from [] = refl
last-moved total n from (e ∷ es) =
    ap (λ (m : ℕ). last_end (total + n) m (further n es)) (same-end total n e.back) ∙ last-moved total n (total - e.back) es

-- ---- the gathering

abbrev pub with_from : Places → ℕ → Counts → List Found → Places
with_from p from counts found = record { base = p.base; from = from; counts = counts; most = p.most; found = found }

abbrev an-error : ℕ → ℕ → ℕ → ℕ → Found
an-error from to line character = record { place = record { from = from; to = to }; line = line; character = character }

one-item : (p : Places) (item : Item) (end : ℤ) (to : ℕ) (before : List ℕ) → saturate_unsigned w64 (pos p.base +ℤ end) ≡ to
    → p.counts ≡ counted no_counts before → length p.found ≤ p.most
    → with_item p item end ≡ with_from p to (counted no_counts (before ++ item_code_points item))
    (take p.most (p.found ++ found_if item (found_after before p.from to)))
one-item p item end to before to_is counts_are few =
    let cs = item_code_points item in
    ap (λ (n : ℕ). with_from p n (counted p.counts cs) (with_found item p.most p.found (an-error p.from n p.counts.lines p.counts.column))) to_is
    ∙ ap (λ (c : Counts). with_from p to (counted c cs) (with_found item p.most p.found (an-error p.from to c.lines c.column))) counts_are
    ∙ ap (λ (n : ℕ). with_from p to (counted (counted no_counts before) cs) (with_found item p.most p.found (an-error p.from to n (column_on 0 before))))
    (first-line before)
    ∙ ap (λ (c : Counts). with_from p to c (with_found item p.most p.found (found_after before p.from to))) (counted-append no_counts before cs)
    ∙ ap (with_from p to (counted no_counts (before ++ cs))) (is-found item p.most p.found (found_after before p.from to) few)

pub same-most : (read : ℕ) (es : List Ended) (p : Places) → (fold (with_ended read) p es).most ≡ p.most
same-most read [] p = refl
same-most read (e ∷ es) p = same-most read es (with_ended read p e)

pub record IsFound (total : ℕ) (before : List ℕ) (es : List Ended) (p h : Places) : Type 0 where
  pub most : h.most ≡ p.most
  pub found : h.found ≡ take p.most (p.found ++ found_among before (places total p.from es))

module _ (base read : ℕ) (bound : base + read < 2 ^ 64) where
  pub found-ended : (es : List Ended) (p : Places) (before : List ℕ) → p.base ≡ base → p.counts ≡ counted no_counts before → length p.found ≤ p.most
      → IsFound (base + read) before es p (fold (with_ended read) p es)
  found-ended [] p before base_is counts_are few = record { most = refl; found = none-found p.most p.found few }
  found-ended (e ∷ es) p before base_is counts_are few =
      let to = base + read - e.back in
      let cs = before ++ item_code_points e.item in
      let more = found_if e.item (found_after before p.from to) in
      let q = with_from p to (counted no_counts cs) (take p.most (p.found ++ more)) in
      let to_is = ap (λ (n : ℕ). saturate_unsigned w64 (pos n +ℤ (pos read -ℤ pos e.back))) base_is ∙ placed-at base read e.back bound in
      let same = ap (λ (x : Places). fold (with_ended read) x es) (one-item p e.item (pos read -ℤ pos e.back) to before to_is counts_are few) in
      let rest = found-ended es q cs base_is refl (take-few p.most (p.found ++ more)) in
      record {
        most = ap (λ (x : Places). x.most) same ∙ rest.most;
        found =
            ap (λ (x : Places). x.found) same ∙ rest.found
            ∙ take-front p.most (p.found ++ more) (found_among cs (places (base + read) to es))
            ∙ ap (take p.most) (append_assoc p.found more (found_among cs (places (base + read) to es)));
      }

-- ---- a text that is taken in bulk

abbrev end-of : Places → ℤ → ℕ
end-of p end = saturate_unsigned w64 (pos p.base +ℤ end)

plain : {S : Type 0} (stride : Stride) (start : ℤ) (after : S) (c : ℕ) (cs : List ℕ) (p : Places)
    → fold with_shown p (plain_from stride start after (c ∷ cs))
    ≡ with_from p (end-of p (start +ℤ pos (run_width stride (c ∷ cs)))) (counted p.counts (c ∷ cs)) p.found
plain stride start after c [] p =
    let width : start +ℤ pos (width_of stride c) ≡ start +ℤ pos (width_of stride c + 0) = omega (arith, ints) in
    ap (λ (end : ℤ). with_from p (end-of p end) (counted p.counts (c ∷ [])) p.found) width
plain stride start after c (d ∷ cs) p =
    let next = start +ℤ pos (width_of stride c) in
    let width : next +ℤ pos (run_width stride (d ∷ cs)) ≡ start +ℤ pos (width_of stride c + run_width stride (d ∷ cs)) = omega (arith, ints) in
    plain stride next after d cs (with_from p (end-of p next) (counted p.counts (c ∷ [])) p.found)
    ∙ ap (λ (end : ℤ). with_from p (end-of p end) (counted (counted p.counts (c ∷ [])) (d ∷ cs)) p.found) width
    ∙ ap (λ (n : Counts). with_from p (end-of p (start +ℤ pos (run_width stride (c ∷ d ∷ cs)))) n p.found) (counted-append p.counts (c ∷ []) (d ∷ cs))

plain-codes : {S : Type 0} (stride : Stride) (end : ℤ) (after : S) (cs : List ℕ) (p : Places) → 0 < length (encode_utf8_all cs)
    → fold with_shown p (plain_to stride end after cs) ≡ with_from p (end-of p end) (counted p.counts cs) p.found
plain-codes stride end after [] p some = absurd (omega arith)
plain-codes stride end after (c ∷ cs) p some =
    let width : (end -ℤ pos (run_width stride (c ∷ cs))) +ℤ pos (run_width stride (c ∷ cs)) ≡ end = omega (arith, ints) in
    plain stride (end -ℤ pos (run_width stride (c ∷ cs))) after c cs p
    ∙ ap (λ (e : ℤ). with_from p (end-of p e) (counted p.counts (c ∷ cs)) p.found) width

pub placed-plain : {S : Type 0} (stride : Stride) (end : ℤ) (after : S) (text : List ℕ) (p : Places) (counts : Counts) → IsUtf8 text → 0 < length text
    → counts ≡ counted p.counts (chars text)
    → with_from p (saturate_unsigned w64 (pos p.base +ℤ end)) counts p.found ≡ fold with_shown p (plain_to stride end after (chars text))
placed-plain stride end after text p counts valid some is =
    ap (λ (n : Counts). with_from p (end-of p end) n p.found) is
    ∙ sym (plain-codes stride end after (chars text) p (subst (λ (bs : List ℕ). 0 < length bs) (sym (encodes-chars text valid)) some))

pub placed-none : {S : Type 0} (stride : Stride) (end : ℤ) (after : S) (text : List ℕ) (p : Places) → length text ≡ 0
    → p ≡ fold with_shown p (plain_to stride end after (chars text))
placed-none stride end after [] p none = rw chars-nil refl
placed-none stride end after (b ∷ text) p none = absurd (omega (arith, none))

-- ---- an error before which there is no text

-- the first error among some items, if any
kept-found : (mark most : ℕ) (f : Found) (fs : List Found) → ((f.line == 0) && (f.character == 0)) ≡ false
    → marked mark (take most (f ∷ fs)) ≡ take most (f ∷ fs)
kept-found mark zero f fs other = refl
kept-found mark (suc most) f fs other = rw other refl

-- where text comes before the items, no error is at the start
not-start : (c : ℕ) (cs : List ℕ) (line column : ℕ) → marks false (c ∷ cs) ≡ line → column_on 0 (c ∷ cs) ≡ column → ((line == 0) && (column == 0)) ≡ false
not-start c cs (suc line) column is are = grind (arith, nat_tests)
not-start c cs zero (suc column) is are = grind (arith, nat_tests)
not-start c cs zero zero is are = absurd (at-start c cs is are)

later-item : (mark most : ℕ) (item : Item) (from to c : ℕ) (cs : List ℕ) (fs : List Found) → marked mark (take most fs) ≡ take most fs
    → marked mark (take most (found_if item (found_after (c ∷ cs) from to) ++ fs)) ≡ take most (found_if item (found_after (c ∷ cs) from to) ++ fs)
later-item mark most (One x) from to c cs fs more = more
later-item mark most (Two x y) from to c cs fs more = more
later-item mark most Error from to c cs fs more =
    kept-found mark most (found_after (c ∷ cs) from to) fs (not-start c cs (marks false (c ∷ cs)) (column_on 0 (c ∷ cs)) refl refl)

taken-none : (mark most : ℕ) → marked mark (take most []) ≡ take most []
taken-none mark zero = refl
taken-none mark (suc most) = refl

-- no error that follows text is at the start
later : (mark most : ℕ) (ps : List Placed) (c : ℕ) (cs : List ℕ) → marked mark (take most (found_among (c ∷ cs) ps)) ≡ take most (found_among (c ∷ cs) ps)
later mark most [] c cs = taken-none mark most
later mark most (p ∷ ps) c cs =
    later-item mark most p.item p.from p.to c cs (found_among (c ∷ cs ++ item_code_points p.item) ps)
    (later mark most ps c (cs ++ item_code_points p.item))

first-error : (mark most to : ℕ) (fs : List Found)
    → marked mark (take most (found_after [] 0 to ∷ fs)) ≡ take most (found_after [] mark to ∷ fs)
first-error mark zero to fs = refl
first-error mark (suc most) to fs = refl

-- by the first item
marked-item : (mark most : ℕ) (item : Item) (to : ℕ) (ps : List Placed)
    → marked mark (take most (found_if item (found_after [] 0 to) ++ found_among (item_code_points item) ps))
    ≡ take most (found_if item (found_after [] mark to) ++ found_among (item_code_points item) ps)
marked-item mark most (One c) to ps = later mark most ps c []
marked-item mark most (Two c d) to ps = later mark most ps c (d ∷ [])
marked-item mark most Error to ps = first-error mark most to (found_among (0xFFFD ∷ []) ps)

-- the first item begins behind the byte order mark
pub marked-places : (mark most total : ℕ) (es : List Ended)
    → marked mark (take most (found_among [] (places total 0 es))) ≡ take most (found_among [] (places total mark es))
marked-places mark most total [] = taken-none mark most
marked-places mark most total (e ∷ es) = marked-item mark most e.item (total - e.back) (places total (total - e.back) es)
