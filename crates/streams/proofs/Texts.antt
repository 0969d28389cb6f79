-- The text of a part, gathered item by item.
use Rattle.std.proofs.Common.{◌≡◌, refl, sym, ap, ◌∙◌, ℕ, ◌+◌, ◌<◌, Bool, true, false, ◌&&◌, if◌then◌else◌, List, [], ◌∷◌, ◌++◌, length, arith}
use Rattle.std.proofs.Common.{append_assoc, append-nil, ◌^◌, ℤ, pos}
use Rattle.std.specs.Int.{saturate_unsigned, w64}
use Rattle.std.proofs.Common.{◌+ℤ◌, ◌-ℤ◌, fold, encode_utf8_all, chars, IsUtf8, map}
use Rattle.std.proofs.lemmas.{Int.ints, Str.encodes-append, Str.encodes-chars, Str.chars-nil}
use Rattle.decoder_core.specs.declared.item.{Item.Item, Item.TheVariants.One, Ended.Ended}
use Rattle.decoder_core.specs.{declared.bulk.Stride.Stride, Bulk.plain_from, Bulk.plain_to, Bulk.run_width, Bulk.width_of, Shown.Shown}
use Rattle.decoder_core.specs.{Shown.ended_at, Shown.shown_items}
use Rattle.decoder_core.specs.{Collected.last_end, Text.item_code_points}
use Rattle.codec.specs.Texts.{ended_text}
use Rattle.streams.specs.Gathering.{Gathered, is_error, kept, stopped_at, stops, with_ended, with_error, with_errors, with_item, with_more, with_shown}
use Rattle.streams.specs.Gathering.{with_text}
use Rattle.streams.proofs.Showing.{placed-at, shown-ended}

-- ---- a text that is taken in bulk

by-strict : (strict : Bool) (x y : Gathered) → (if strict && false then x else y) ≡ y
by-strict true x y = refl
by-strict false x y = refl

one-more : (g : Gathered) (c : ℕ) (end : ℤ) → g.stopped ≡ false → with_item g (One c) end ≡ with_text (encode_utf8_all (c ∷ [])) end g
one-more g c end going = rw going (by-strict g.strict _ _)

plain : {S : Type 0} (stride : Stride) (start : ℤ) (after : S) (c : ℕ) (cs : List ℕ) (g : Gathered) → g.stopped ≡ false
    → fold with_shown g (plain_from stride start after (c ∷ cs))
    ≡ with_text (encode_utf8_all (c ∷ cs)) (start +ℤ pos (run_width stride (c ∷ cs))) g
plain stride start after c [] g going =
    let width : start +ℤ pos (width_of stride c) ≡ start +ℤ pos (width_of stride c + 0) = omega (arith, ints) in
    one-more g c _ going ∙ ap (λ (end : ℤ). with_text (encode_utf8_all (c ∷ [])) end g) width
plain stride start after c (d ∷ cs) g going =
    let next = start +ℤ pos (width_of stride c) in
    let width : next +ℤ pos (run_width stride (d ∷ cs)) ≡ start +ℤ pos (width_of stride c + run_width stride (d ∷ cs)) = omega (arith, ints) in
    ap (λ (h : Gathered). fold with_shown h (plain_from stride next after (d ∷ cs))) (one-more g c next going)
    ∙ plain stride next after d cs (with_text (encode_utf8_all (c ∷ [])) next g) going
    ∙ rw (append_assoc g.text, ← encodes-append (c ∷ []) (d ∷ cs), width) refl

plain-codes : {S : Type 0} (stride : Stride) (end : ℤ) (after : S) (cs : List ℕ) (g : Gathered) → g.stopped ≡ false → 0 < length (encode_utf8_all cs)
    → fold with_shown g (plain_to stride end after cs) ≡ with_text (encode_utf8_all cs) end g
plain-codes stride end after [] g going some = absurd (omega arith)
plain-codes stride end after (c ∷ cs) g going some =
    let width : (end -ℤ pos (run_width stride (c ∷ cs))) +ℤ pos (run_width stride (c ∷ cs)) ≡ end = omega (arith, ints) in
    plain stride (end -ℤ pos (run_width stride (c ∷ cs))) after c cs g going ∙ ap (λ (e : ℤ). with_text (encode_utf8_all (c ∷ cs)) e g) width

pub gathered-plain : {S : Type 0} (stride : Stride) (end : ℤ) (after : S) (text : List ℕ) (g : Gathered) → g.stopped ≡ false → IsUtf8 text
    → 0 < length text → with_text text end g ≡ fold with_shown g (plain_to stride end after (chars text))
gathered-plain stride end after text g going valid some =
    let same = encodes-chars text valid in
    rw (plain-codes stride end after (chars text) g going (rw same some), same) refl

pub gathered-none : {S : Type 0} (stride : Stride) (end : ℤ) (after : S) (text : List ℕ) (g : Gathered) → length text ≡ 0
    → g ≡ fold with_shown g (plain_to stride end after (chars text))
gathered-none stride end after [] g none = rw chars-nil refl
gathered-none stride end after (b ∷ text) g none = absurd (omega arith)

stopped-once : (g : Gathered) (item : Item) (end : ℤ) → g.stopped ≡ true → with_item g item end ≡ g
stopped-once g item end stopped = rw stopped refl

pub gathered-stopped : {S : Type 0} (g : Gathered) (xs : List (Shown S)) → g.stopped ≡ true → g ≡ fold with_shown g xs
gathered-stopped g [] stopped = refl
gathered-stopped g (x ∷ xs) stopped = rw (stopped-once g x.item x.end stopped) (gathered-stopped g xs stopped)

-- ---- what is shown are the items of the feed

pub gathered-shown : {S : Type 0} (read : ℕ) (g : Gathered) (xs : List (Shown S)) (es : List Ended) → shown_items xs ≡ ended_at read es
    → fold with_shown g xs ≡ fold (with_ended read) g es
gathered-shown read g xs es is = shown-ended with_item read g xs es is

pub gathered-alike : {S : Type 0} (read : ℕ) (g : Gathered) (xs ys : List (Shown S)) (es fs : List Ended) → shown_items xs ≡ ended_at read es
    → shown_items ys ≡ ended_at read fs → xs ≡ ys → fold (with_ended read) g es ≡ fold (with_ended read) g fs
gathered-alike read g xs ys es fs x y same =
    sym (gathered-shown read g xs es x) ∙ ap (fold with_shown g) same ∙ gathered-shown read g ys fs y

-- ---- the text that was gathered is that of the items that are kept

ended-stopped : (read : ℕ) (es : List Ended) (g : Gathered) → g.stopped ≡ true → fold (with_ended read) g es ≡ g
ended-stopped read [] g stopped = refl
ended-stopped read (e ∷ es) g stopped =
    ap (λ (h : Gathered). fold (with_ended read) h es) (stopped-once g e.item _ stopped) ∙ ended-stopped read es g stopped

-- what has been gathered of these items, after a text
pub record IsKept (text : List ℕ) (strict : Bool) (es : List Ended) (g : Gathered) : Type 0 where
  pub text_is : g.text ≡ text ++ encode_utf8_all (ended_text (kept strict es))
  pub stopped_is : g.stopped ≡ stops strict es

taken-error : (g : Gathered) (item : Item) (end : ℤ) → g.stopped ≡ false → (g.strict && is_error item) ≡ true → with_item g item end ≡ stopped_at end g
taken-error g item end going is = rw going (rw is refl)

taken-text : (g : Gathered) (item : Item) (end : ℤ) → g.stopped ≡ false → (g.strict && is_error item) ≡ false
    → with_item g item end ≡ with_more (encode_utf8_all (item_code_points item)) end (with_error item g.errors) g
taken-text g item end going is = rw going (rw is refl)

kept-error : (strict : Bool) (e : Ended) (es : List Ended) → (strict && is_error e.item) ≡ true → (kept strict (e ∷ es) ≡ []) × (stops strict (e ∷ es) ≡ true)
kept-error strict e es is = (rw is refl, rw is refl)

kept-text : (strict : Bool) (e : Ended) (es : List Ended) → (strict && is_error e.item) ≡ false
    → (kept strict (e ∷ es) ≡ e ∷ kept strict es) × (stops strict (e ∷ es) ≡ stops strict es)
kept-text strict e es is = (rw is refl, rw is refl)

module _ (read : ℕ) where
  kept-step : (e : Ended) (es : List Ended) (g : Gathered) (b : Bool) → (g.strict && is_error e.item) ≡ b → g.stopped ≡ false
      → ((h : Gathered) → h.stopped ≡ false → IsKept h.text h.strict es (fold (with_ended read) h es))
      → IsKept g.text g.strict (e ∷ es) (fold (with_ended read) g (e ∷ es))
  kept-step e es g true is going more =
      let end = pos read -ℤ pos e.back in
      let same = ap (λ (h : Gathered). fold (with_ended read) h es) (taken-error g e.item end going is) ∙ ended-stopped read es (stopped_at end g) refl in
      let k = kept-error g.strict e es is in
      record {
        text_is = ap (λ (h : Gathered). h.text) same ∙ rw k.0 (sym (append-nil g.text));
        stopped_is = ap (λ (h : Gathered). h.stopped) same ∙ sym k.1;
      }
  kept-step e es g false is going more =
      let end = pos read -ℤ pos e.back in
      let h = with_more (encode_utf8_all (item_code_points e.item)) end (with_error e.item g.errors) g in
      let same = ap (λ (h : Gathered). fold (with_ended read) h es) (taken-text g e.item end going is) in
      let k = kept-text g.strict e es is in
      let rest = more h going in
      record {
        text_is =
            ap (λ (h : Gathered). h.text) same ∙ rest.text_is
            ∙ rw (k.0, encodes-append (item_code_points e.item), append_assoc) refl;
        stopped_is = ap (λ (h : Gathered). h.stopped) same ∙ rest.stopped_is ∙ sym k.1;
      }

  pub gathered-kept : (es : List Ended) (g : Gathered) → g.stopped ≡ false → IsKept g.text g.strict es (fold (with_ended read) g es)
  gathered-kept [] g going = record { text_is = sym (append-nil g.text); stopped_is = going }
  gathered-kept (e ∷ es) g going = kept-step e es g (g.strict && is_error e.item) refl going (gathered-kept es)

-- from no text on
pub gathered-first : (read : ℕ) (strict : Bool) (end : ℤ) (es : List Ended) (g h : Gathered)
    → g ≡ record { text = []; strict = strict; end = end; stopped = false; stop = pos 0; errors = 0 } → h ≡ fold (with_ended read) g es
    → (encode_utf8_all (ended_text (kept strict es)) ≡ h.text) × (h.stopped ≡ stops strict es)
gathered-first read strict end es g h first is =
    let k = gathered-kept read es (record { text = []; strict = strict; end = end; stopped = false; stop = pos 0; errors = 0 }) refl in
    let same = is ∙ ap (λ (x : Gathered). fold (with_ended read) x es) first in
    (sym (ap (λ (x : Gathered). x.text) same ∙ k.text_is), ap (λ (x : Gathered). x.stopped) same ∙ k.stopped_is)

-- ---- where nothing stops it

-- what was gathered of these items, of a part of `read` bytes after `base` others
pub record IsAll (base read : ℕ) (es : List Ended) (g h : Gathered) : Type 0 where
  pub text_is : h.text ≡ g.text ++ encode_utf8_all (ended_text es)
  pub end_is : saturate_unsigned w64 (pos base +ℤ h.end) ≡ last_end (base + read) (saturate_unsigned w64 (pos base +ℤ g.end)) es
  pub errors_are : h.errors ≡ with_errors g.errors es

module _ (base read : ℕ) (bound : base + read < 2 ^ 64) where
  pub gathered-all : (es : List Ended) (g : Gathered) → g.stopped ≡ false → g.strict ≡ false → IsAll base read es g (fold (with_ended read) g es)
  gathered-all [] g going lax = record { text_is = sym (append-nil g.text); end_is = refl; errors_are = refl }
  gathered-all (e ∷ es) g going lax =
      let end = pos read -ℤ pos e.back in
      let h = with_more (encode_utf8_all (item_code_points e.item)) end (with_error e.item g.errors) g in
      let lenient : (g.strict && is_error e.item) ≡ false = rw lax refl in
      let same = ap (λ (x : Gathered). fold (with_ended read) x es) (taken-text g e.item end going lenient) in
      let rest = gathered-all es h going lax in
      record {
        text_is = ap (λ (x : Gathered). x.text) same ∙ rest.text_is ∙ rw (encodes-append (item_code_points e.item), append_assoc) refl;
        end_is =
            ap (λ (x : Gathered). saturate_unsigned w64 (pos base +ℤ x.end)) same ∙ rest.end_is
            ∙ ap (λ (n : ℕ). last_end (base + read) n es) (placed-at base read e.back bound);
        errors_are = ap (λ (x : Gathered). x.errors) same ∙ rest.errors_are;
      }
