-- A check goes on: what it has after more items.
use Rattle.std.proofs.Common.{◌≡◌, refl, sym, ap, ◌∙◌, subst, ℕ, ◌+◌, ◌-◌, ◌^◌, ◌<◌, ◌≤◌, List, [], ◌∷◌, ◌++◌, length, take, arith, append-nil, append_assoc}
use Rattle.std.proofs.Common.{false, true, add-zero, length-append, chars, encode_utf8_all, string_bytes, ℤ, pos, ◌+ℤ◌, ◌-ℤ◌, take_all, fold}
use Rattle.std.proofs.lemmas.{Int.ints, Str.chars_from_encodes, Str.IsUtf8-string_bytes}
use Rattle.std.proofs.lemmas.{List.take-append-le}
use Rattle.std.specs.Int.{saturate_unsigned, w64}
use Rattle.decoder_core.specs.declared.{item.Item.Item, item.Item.TheVariants.One, item.Item.TheVariants.Two, item.Item.TheVariants.Error, item.Ended.Ended}
use Rattle.decoder_core.specs.{declared.placed.Placed.Placed, Collected.last_end, Placed.places, Queue.Fed, Queue.feed, Queue.further, Queue.run}
use Rattle.index_loader.specs.Files.{Files, has_files}
use Rattle.enc_names.specs.declared.setting.Setting.{Setting}
use Rattle.decoder_core.specs.Text.{code_points, error_place, error_places, item_code_points}
use Rattle.enc_names.specs.declared.place.Place.{Place}
use Rattle.codec.specs.{Decode.decode, Mark.in_force, Mark.mark_length}
use Rattle.codec.specs.{Any.AnyDecoding, Any.any, Any.any_start, Texts.ended_text, declared.state.AnyState.AnyState}
use Rattle.streams.specs.declared.{counts.Counts.Counts, head.Head.Head, part_text.Decoded.Decoded, row.Found.Found, row.Row.Row}
use Rattle.streams.specs.Checks.{Checked, Checking, ChecksPart, EndsCheck, HasRead, IsPart, Names, Sums, added, gone_on}
use Rattle.std.proofs.Common.{Result, Ok, Err, IfOk, IfErr}
use Rattle.std.specs.Prelude.{⊤}
use Rattle.devices.specs.{Devices.Reads, Reading.Ending, Reading.AtEnd, Reading.BrokenOff, Reading.ReadSo, Reading.ReadUp, Reading.Taken, Reading.TakenUntil}
use Rattle.devices.specs.{Reading.TakesEach, Reading.joined}
use Rattle.streams.specs.declared.checking.CheckFault.{CheckFault}
use Rattle.streams.specs.declared.checking.CheckFault.TheVariants as fault
use Rattle.streams.specs.{Checks.Checks, Checks.IsRow, Checks.RanOut, Checks.RowOf, Checks.SomethingRead, Finding.marked}
use Rattle.streams.specs.{Counting.counted, Counting.no_counts, Finding.found_after, Finding.found_among, Finding.found_if, Finding.Places}
use Rattle.streams.specs.{Gathering.Gathered, Gathering.with_ended}
use Rattle.streams.specs.{Finding.with_ended as named, Gathering.with_error, Gathering.with_errors, Heads.head_bytes}
use Rattle.streams.proofs.Deciding.{further-zero, places-text, text-append, text-moved}
use Rattle.streams.proofs.Errors.{found-append, last-append, last-moved, places-append, places-moved, marked-places, same-most}
use Rattle.streams.proofs.Errors.{take-few, take-front, found-ended}
use Rattle.streams.proofs.Texts.{gathered-all}
use Rattle.streams.proofs.Numbers.{counted-append}

-- ---- errors

errors-step : (item : Item) (n m : ℕ) → n + with_error item m ≡ with_error item (n + m)
errors-step (One c) n m = refl
errors-step (Two a b) n m = refl
errors-step Error n m = omega arith

errors-from : (n m : ℕ) (es : List Ended) → n + with_errors m es ≡ with_errors (n + m) es
errors-from n m [] = refl
errors-from n m (e ∷ es) = errors-from n (with_error e.item m) es ∙ ap (λ (k : ℕ). with_errors k es) (errors-step e.item n m)

pub errors-more : (n : ℕ) (es : List Ended) → n + with_errors 0 es ≡ with_errors n es
errors-more n es = errors-from n 0 es ∙ ap (λ (k : ℕ). with_errors k es) (add-zero n)

pub errors-append : (n : ℕ) (es fs : List Ended) → with_errors n (es ++ fs) ≡ with_errors (with_errors n es) fs
errors-append n [] fs = refl
errors-append n (e ∷ es) fs = errors-append (with_error e.item n) es fs

pub errors-moved : (n k : ℕ) (es : List Ended) → with_errors n (further k es) ≡ with_errors n es
errors-moved n k [] = refl
errors-moved n k (e ∷ es) = errors-moved (with_error e.item n) k es

-- ---- what was decoded

pub part-is : (c : Checking) (n : ℕ) (rel : ℤ) (es : List Ended) (g h : Gathered) (d : Decoded) → c.bytes + n < 2 ^ 64 → c.end < 2 ^ 64
    → rel ≡ pos c.end -ℤ pos c.bytes → g ≡ record { text = []; strict = false; end = rel; stopped = false; stop = pos 0; errors = 0 }
    → h ≡ fold (with_ended n) g es → string_bytes d.text ≡ h.text → d.end ≡ h.end → d.errors ≡ h.errors → IsPart c n es d
part-is c n rel es g h d bound fits rel_is first is text end errors =
    let start : Gathered = record { text = []; strict = false; end = rel; stopped = false; stop = pos 0; errors = 0 } in
    let k = gathered-all c.bytes n bound es start refl refl in
    let same = is ∙ ap (λ (x : Gathered). fold (with_ended n) x es) first in
    let bytes : encode_utf8_all (ended_text es) ≡ string_bytes d.text = sym (text ∙ ap (λ (x : Gathered). x.text) same ∙ k.text_is) in
    let at : saturate_unsigned w64 (pos c.bytes +ℤ rel) ≡ c.end = rw rel_is (grind (arith, ints)) in
    record {
      text = sym (chars_from_encodes (ended_text es) (string_bytes d.text) (IsUtf8-string_bytes d.text) bytes);
      errors = errors ∙ ap (λ (x : Gathered). x.errors) same ∙ k.errors_are;
      end_is =
          ap (λ (e : ℤ). saturate_unsigned w64 (pos c.bytes +ℤ e)) (end ∙ ap (λ (x : Gathered). x.end) same) ∙ k.end_is
          ∙ ap (λ (m : ℕ). last_end (c.bytes + n) m es) at;
    }

-- ---- one part more

module _ (total n : ℕ) (items es : List Ended) (old new : Checking) (d : Decoded) (sums : Sums total items old)
    (is : IsPart old n es d) (bytes_are : old.bytes ≡ total)
    (end_is : new.end ≡ saturate_unsigned w64 (pos old.bytes +ℤ d.end)) (counts_are : new.counts ≡ counted old.counts (chars (string_bytes d.text)))
    (errors_are : new.errors ≡ old.errors + d.errors) (most_is : new.most ≡ old.most)
    (found_is : new.found ≡ take old.most (old.found ++ found_among (ended_text items) (places (old.bytes + n) old.end es))) where
  all-text : ended_text (further n items ++ es) ≡ ended_text items ++ ended_text es
  all-text = text-append (further n items) es ∙ ap (λ (cs : List ℕ). cs ++ ended_text es) (text-moved n items)

  all-places : places (total + n) 0 (further n items ++ es) ≡ places total 0 items ++ places (total + n) old.end es
  all-places =
      places-append (total + n) 0 (further n items) es
      ∙ ap (λ (ps : List Placed). ps ++ places (total + n) (last_end (total + n) 0 (further n items)) es) (places-moved total n 0 items)
      ∙ ap (λ (m : ℕ). places total 0 items ++ places (total + n) m es) (last-moved total n 0 items ∙ sym sums.end_is)

  all-found : found_among [] (places (total + n) 0 (further n items ++ es))
      ≡ found_among [] (places total 0 items) ++ found_among (ended_text items) (places (total + n) old.end es)
  all-found =
      ap (found_among []) all-places ∙ found-append [] (places total 0 items) (places (total + n) old.end es)
      ∙ ap (λ (cs : List ℕ). found_among [] (places total 0 items) ++ found_among cs (places (total + n) old.end es)) (places-text total 0 items)

  pub sums-more : Sums (total + n) (further n items ++ es) new
  sums-more = record {
    end_is =
        end_is ∙ is.end_is ∙ ap (λ (m : ℕ). last_end (m + n) old.end es) bytes_are
        ∙ ap (λ (m : ℕ). last_end (total + n) m es) (sums.end_is ∙ sym (last-moved total n 0 items))
        ∙ sym (last-append (total + n) 0 (further n items) es);
    counts_are =
        counts_are ∙ ap (λ (c : Counts). counted c (chars (string_bytes d.text))) sums.counts_are
        ∙ ap (counted (counted no_counts (ended_text items))) is.text
        ∙ counted-append no_counts (ended_text items) (ended_text es) ∙ ap (counted no_counts) (sym all-text);
    errors_are =
        errors_are ∙ ap (λ (m : ℕ). old.errors + m) is.errors ∙ errors-more old.errors es
        ∙ ap (λ (m : ℕ). with_errors m es) (sums.errors_are ∙ sym (errors-moved 0 n items)) ∙ sym (errors-append 0 (further n items) es);
    found_are =
        found_is ∙ ap (λ (m : ℕ). take old.most (old.found ++ found_among (ended_text items) (places (m + n) old.end es))) bytes_are
        ∙ ap (λ (fs : List Found). take old.most (fs ++ found_among (ended_text items) (places (total + n) old.end es))) sums.found_are
        ∙ take-front old.most (found_among [] (places total 0 items)) (found_among (ended_text items) (places (total + n) old.end es))
        ∙ ap (take old.most) (sym all-found)
        ∙ ap (λ (m : ℕ). take m (found_among [] (places (total + n) 0 (further n items ++ es)))) (sym most_is);
  }

-- ---- a part whose errors aren't named

none-step : (item : Item) (es : List Ended) (f : Found) (fs : List Found) → with_errors (with_error item 0) es ≡ 0 → (with_errors 0 es ≡ 0 → fs ≡ [])
    → found_if item f ++ fs ≡ []
none-step (One c) es f fs is more = more is
none-step (Two a b) es f fs is more = more is
none-step Error es f fs is more = absurd (omega (arith, errors-more 1 es, is))

no-errors : (total from : ℕ) (before : List ℕ) (es : List Ended) → with_errors 0 es ≡ 0 → found_among before (places total from es) ≡ []
no-errors total from before [] is = refl
no-errors total from before (e ∷ es) is =
    none-step e.item es (found_after before from (total - e.back)) (found_among (before ++ item_code_points e.item) (places total (total - e.back) es)) is
    (no-errors total (total - e.back) (before ++ item_code_points e.item) es)

module _ (most : ℕ) (found all more : List Found) (is : found ≡ take most all) where
  pub few-found : length found ≤ most
  few-found = subst (λ (fs : List Found). length fs ≤ most) (sym is) (take-few most all)

  pub none-named : more ≡ [] → found ≡ take most (found ++ more)
  none-named none = sym (ap (λ (fs : List Found). take most (found ++ fs)) none ∙ ap (take most) (append-nil found) ∙ take_all most found few-found)

  pub all-named : most ≤ length found → found ≡ take most (found ++ more)
  all-named full = sym (take-append-le most found more full ∙ take_all most found few-found)

pub unnamed : (total n end most : ℕ) (before : List ℕ) (es : List Ended) (found all : List Found) → found ≡ take most all → with_errors 0 es ≡ 0
    → found ≡ take most (found ++ found_among before (places (total + n) end es))
unnamed total n end most before es found all is none =
    none-named most found all (found_among before (places (total + n) end es)) is (no-errors (total + n) end before es none)

-- ---- the names of a part's errors

pub names-none : (n : ℕ) (es : List Ended) (old : Checking) → with_errors 0 es ≡ 0 → Names n es old old
names-none n es old none = record {
  others = refl;
  found = λ before all counts is. unnamed old.bytes n old.end old.most before es old.found all is none;
}

pub names-full : (n : ℕ) (es : List Ended) (old : Checking) → old.most ≤ length old.found → Names n es old old
names-full n es old full = record {
  others = refl;
  found = λ before all counts is. all-named old.most old.found all (found_among before (places (old.bytes + n) old.end es)) is full;
}

module _ (n : ℕ) (es : List Ended) (old : Checking) (h : Places) (bound : old.bytes + n < 2 ^ 64) where
  abbrev first : Places
  first = record { base = old.bytes; from = old.end; counts = old.counts; most = old.most; found = old.found }

  abbrev pub placed : ℕ → List Found → Checking
  placed most found = record {
    decoder = old.decoder;
    setting = old.setting;
    state = old.state;
    head = old.head;
    bytes = old.bytes;
    end = old.end;
    counts = old.counts;
    errors = old.errors;
    most = most;
    found = found;
  }

  pub names-placed : h ≡ fold (named n) first es → Names n es old (placed h.most h.found)
  names-placed is = record {
    others = ap (λ (m : ℕ). placed m h.found) (ap (λ (x : Places). x.most) is ∙ same-most n es first);
    found = λ before all counts found.
        ap (λ (x : Places). x.found) is
        ∙ (found-ended old.bytes n bound es first before refl counts (few-found old.most old.found all [] found)).found;
  }

-- ---- the number of errors

count-step : (item : Item) (place : Place) (es : List Ended) (rest : List Place) → length rest ≡ with_errors 0 es
    → length (error_place item place ++ rest) ≡ with_errors (with_error item 0) es
count-step (One c) place es rest is = is
count-step (Two a b) place es rest is = is
count-step Error place es rest is = omega (arith, errors-more 1 es, is)

pub errors-count : (total from : ℕ) (es : List Ended) → length (error_places (places total from es)) ≡ with_errors 0 es
errors-count total from [] = refl
errors-count total from (e ∷ es) =
    count-step e.item (record { from = from; to = total - e.back }) es (error_places (places total (total - e.back) es))
    (errors-count total (total - e.back) es)

-- ---- a check that goes on

module _ (n : ℕ) (es : List Ended) (old mid new : Checking) (d : Decoded) (part : IsPart old n es d) (names : Names n es old mid) (is : new ≡ added d mid) where
  mid-bytes : mid.bytes ≡ old.bytes
  mid-bytes = ap (λ (c : Checking). c.bytes) names.others

  pub added-sums : (items : List Ended) → Sums old.bytes items old → Sums (old.bytes + n) (further n items ++ es) new
  added-sums items s =
      sums-more old.bytes n items es old new d s part refl
      (ap (λ (c : Checking). c.end) is ∙ ap (λ (m : ℕ). saturate_unsigned w64 (pos m +ℤ d.end)) mid-bytes)
      (ap (λ (c : Checking). c.counts) is ∙ ap (λ (c : Counts). counted c (chars (string_bytes d.text))) (ap (λ (c : Checking). c.counts) names.others))
      (ap (λ (c : Checking). c.errors) is ∙ ap (λ (m : ℕ). m + d.errors) (ap (λ (c : Checking). c.errors) names.others))
      (ap (λ (c : Checking). c.most) is ∙ ap (λ (c : Checking). c.most) names.others)
      (ap (λ (c : Checking). c.found) is
      ∙ names.found (ended_text items) (found_among [] (places old.bytes 0 items)) s.counts_are s.found_are)

pub ends-check : (last : List Ended) (old mid new : Checking) (d : Decoded) → IsPart old 0 last d → Names 0 last old mid → new ≡ added d mid
    → EndsCheck last old new
ends-check last old mid new d part names is = record {
  setting = ap (λ (c : Checking). c.setting) is ∙ ap (λ (c : Checking). c.setting) names.others;
  head = ap (λ (c : Checking). c.head) is ∙ ap (λ (c : Checking). c.head) names.others;
  bytes = ap (λ (c : Checking). c.bytes) is ∙ ap (λ (c : Checking). c.bytes) names.others;
  most = ap (λ (c : Checking). c.most) is ∙ ap (λ (c : Checking). c.most) names.others;
  sums = λ items s.
      subst (λ (xs : List Ended). Sums old.bytes (xs ++ last) new) (further-zero items)
      (subst (λ (m : ℕ). Sums m (further 0 items ++ last) new) (add-zero old.bytes) (added-sums 0 last old mid new d part names is items s));
}

-- ---- a part that was read

pub read-more : (head read bytes : List ℕ) → head ≡ take 3 read → take 3 (head ++ bytes) ≡ take 3 (read ++ bytes)
read-more head read bytes is = ap (λ (h : List ℕ). take 3 (h ++ bytes)) is ∙ take-front 3 read bytes

-- the sums see no more than these
pub same-sums : (total : ℕ) (items : List Ended) (c e : Checking) (state : AnyState) (head : Head) (bytes : ℕ) → e ≡ gone_on state head bytes c
    → Sums total items c → Sums total items e
same-sums total items c e state head bytes is s = record {
  end_is = ap (λ (x : Checking). x.end) is ∙ s.end_is;
  counts_are = ap (λ (x : Checking). x.counts) is ∙ s.counts_are;
  errors_are = ap (λ (x : Checking). x.errors) is ∙ s.errors_are;
  found_are =
      ap (λ (x : Checking). x.found) is ∙ s.found_are
      ∙ ap (λ (m : ℕ). take m (found_among [] (places total 0 items))) (sym (ap (λ (x : Checking). x.most) is));
}

pub part-checked : (bytes : List ℕ) (old mid third new : Checking) (decoded : Decoded) (after : AnyState) (total : ℕ)
    → total ≡ old.bytes + length bytes → IsPart old (length bytes) (feed (any old.decoder) old.state bytes).items decoded
    → after ≡ (feed (any old.decoder) old.state bytes).state → Names (length bytes) (feed (any old.decoder) old.state bytes).items old mid
    → third ≡ added decoded mid → head_bytes new.head ≡ take 3 (head_bytes third.head ++ bytes) → new ≡ gone_on after new.head total third
    → ChecksPart bytes old new
part-checked bytes old mid third new decoded after total total_is part after_is names third_is head_is new_is = λ d setting most read h.
    let n = length bytes in
    let f = feed (any d) (any_start d) read in
    let fed : feed (any old.decoder) old.state bytes ≡ feed (any d) f.state bytes =
    ap (λ (x : AnyDecoding). feed (any x) old.state bytes) h.same.0 ∙ ap (λ (s : AnyState). feed (any d) s bytes) h.state in
    let whole = h.feeds (any_start d) read bytes in
    let es = (feed (any old.decoder) old.state bytes).items in
    let sums = added-sums n es old mid third decoded part names third_is f.items (subst (λ (m : ℕ). Sums m f.items old) (sym h.bytes) h.sums) in
    let all : further n f.items ++ es ≡ (feed (any d) (any_start d) (read ++ bytes)).items =
    ap (λ (x : Fed AnyState). further n f.items ++ x.items) fed ∙ sym (ap (λ (x : Fed AnyState). x.items) whole) in
    let length_is : old.bytes + n ≡ length (read ++ bytes) = ap (λ (m : ℕ). m + n) h.bytes ∙ sym (length-append read bytes) in
    let moved = subst (λ (m : ℕ). Sums m (feed (any d) (any_start d) (read ++ bytes)).items third) length_is
    (subst (λ (xs : List Ended). Sums (old.bytes + n) xs third) all sums) in
    record {
      same = (
        ap (λ (x : Checking). x.decoder) new_is ∙ ap (λ (x : Checking). x.decoder) third_is ∙ ap (λ (x : Checking). x.decoder) names.others ∙ h.same.0,
        ap (λ (x : Checking). x.setting) new_is ∙ ap (λ (x : Checking). x.setting) third_is ∙ ap (λ (x : Checking). x.setting) names.others ∙ h.same.1,
        ap (λ (x : Checking). x.most) new_is ∙ ap (λ (x : Checking). x.most) third_is ∙ ap (λ (x : Checking). x.most) names.others ∙ h.same.2,
      );
      state =
          ap (λ (x : Checking). x.state) new_is ∙ after_is ∙ ap (λ (x : Fed AnyState). x.state) fed
          ∙ sym (ap (λ (x : Fed AnyState). x.state) whole);
      head =
          head_is ∙ ap (λ (x : Head). take 3 (head_bytes x ++ bytes)) (ap (λ (x : Checking). x.head) third_is ∙ ap (λ (x : Checking). x.head) names.others)
          ∙ read-more (head_bytes old.head) read bytes h.head;
      bytes = ap (λ (x : Checking). x.bytes) new_is ∙ total_is ∙ length_is;
      sums = same-sums (length (read ++ bytes)) (feed (any d) (any_start d) (read ++ bytes)).items third new after new.head total new_is moved;
      feeds = h.feeds;
    }

-- ---- the row

module _ (files : Files) (setting : Setting) (most : ℕ) (read : List ℕ) (start mid : Checking) (c : Checked files setting most read start) (last : List Ended)
    (last_is : last ≡ run (any start.decoder) start.state []) (ends : EndsCheck last start mid) (row : Row) (is : RowOf mid row) where
  abbrev d : AnyDecoding
  d = c.decoder

  abbrev es : List Ended
  es = run (any d) (any_start d) read

  abbrev f : Fed AnyState
  f = feed (any d) (any_start d) read

  -- the items that were decided, and those of the end
  all : f.items ++ last ≡ es
  all =
      ap (λ (xs : List Ended). f.items ++ xs)
      (last_is ∙ ap (λ (x : AnyDecoding). run (any x) start.state []) c.has.same.0 ∙ ap (λ (s : AnyState). run (any d) s []) c.has.state)
      ∙ ap (λ (xs : List Ended). xs ++ run (any d) f.state []) (sym (further-zero f.items))
      ∙ sym (c.runs (any_start d) read []) ∙ ap (run (any d) (any_start d)) (append-nil read)

  sums : Sums (length read) es mid
  sums =
      subst (λ (xs : List Ended). Sums (length read) xs mid) all
      (subst (λ (m : ℕ). Sums m (f.items ++ last) mid) c.has.bytes
      (ends.sums f.items (subst (λ (m : ℕ). Sums m f.items start) (sym c.has.bytes) c.has.sums)))

  abbrev items : List Placed
  items = (decode files setting read).items

  decoded : places (length read) (mark_length setting read) es ≡ items
  decoded = c.decodes read

  text : ended_text es ≡ code_points items
  text = sym (places-text (length read) (mark_length setting read) es) ∙ ap code_points decoded

  head : head_bytes mid.head ≡ take 3 read
  head = ap head_bytes ends.head ∙ c.has.head

  setting-is : mid.setting ≡ setting
  setting-is = ends.setting ∙ c.has.same.1

  counts : mid.counts ≡ counted no_counts (code_points items)
  counts = sums.counts_are ∙ ap (counted no_counts) text

  mark : row.bom ≡ mark_length setting read
  mark = is.bom read head ∙ ap (λ (s : Setting). mark_length s read) setting-is

  found : row.places.items ≡ take most (found_among [] items)
  found =
      is.places_are ∙ ap (λ (m : ℕ). marked m mid.found) mark
      ∙ ap (marked (mark_length setting read)) (sums.found_are
      ∙ ap (λ (m : ℕ). take m (found_among [] (places (length read) 0 es))) (ends.most ∙ c.has.same.2))
      ∙ marked-places (mark_length setting read) most (length read) es ∙ ap (λ (ps : List Placed). take most (found_among [] ps)) decoded

  pub row-is : IsRow files setting most read row
  unfolding decode
  row-is = record {
    encoding = is.encoding read head ∙ ap (λ (s : Setting). in_force s read) setting-is;
    bom = mark;
    bytes_are = is.bytes_are ∙ ends.bytes ∙ c.has.bytes;
    characters = is.characters ∙ ap (λ (x : Counts). x.characters) counts ∙ omega arith;
    lf = is.lf ∙ ap (λ (x : Counts). x.lines - x.crs) counts ∙ omega arith;
    crlf = is.crlf ∙ ap (λ (x : Counts). x.pairs) counts ∙ omega arith;
    cr_are = is.cr_are ∙ ap (λ (x : Counts). x.crs - x.pairs) counts ∙ omega arith;
    lines = is.lines ∙ ap (λ (x : Counts). x.lines + 1) counts ∙ omega arith;
    errors =
        is.errors ∙ sums.errors_are ∙ sym (errors-count (length read) (mark_length setting read) es)
        ∙ ap (λ (ps : List Placed). length (error_places ps)) decoded;
    places_are = found;
  }

-- ---- a stream

abbrev pub Takes : List ℕ → Checking × ⊤ × ⊤ → Checking × ⊤ × ⊤ → Type 0
Takes bytes s t = ChecksPart bytes s.0 t.0

module _ (files : Files) (setting : Setting) (most : ℕ) where
  each : (d : AnyDecoding) (parts : List (List ℕ)) (s t : Checking × ⊤ × ⊤) → TakesEach Takes parts s t → HasRead d setting most [] s.0
      → HasRead d setting most (joined parts) t.0
  each d [] s t is h = subst (λ (x : Checking × ⊤ × ⊤). HasRead d setting most [] x.0) (sym is) h
  each d (part ∷ parts) s t many h = many.2 d setting most (joined parts) (each d parts s many.0 many.1 h)

  module _ (s t : Checking × ⊤ × ⊤) (first last : Reads) (begun : Checked files setting most [] s.0)
      (so : ReadSo (λ (read : List ℕ). Taken Takes read s t) first last) where
    checked : Checked files setting most so.read t.0
    checked = record {
      decoder = begun.decoder;
      decodes = begun.decodes;
      runs = begun.runs;
      has = subst (λ (xs : List ℕ). HasRead begun.decoder setting most xs t.0) (sym so.holds.is)
          (each begun.decoder so.holds.parts s t so.holds.each begun.has);
    }

    abbrev RowIs : Result Row CheckFault → Type 0
    RowIs r = (files : Files) (setting : Setting) (most : ℕ) (read : List ℕ) → Checked files setting most read t.0 → IfOk r (IsRow files setting most read)

    row-so : (row : Row) → IsRow files setting most so.read row → ReadSo (λ (read : List ℕ). IsRow files setting most read row) first last
    row-so row is = record { read = so.read; received = so.received; consumes = so.consumes; holds = is }

    -- memory ran out, for the row
    pub ran-out : (ending : Ending) → SomethingRead ending so.read → ReadUp ending first last → RanOut first last
    ran-out ending some up =
        record { ending = ending; so = record { read = so.read; received = so.received; consumes = so.consumes; holds = some }; up = up }

    pub no-row : (f : CheckFault) (ending : Ending) → SomethingRead ending so.read → has_files files setting.given ≡ true → f ≡ fault.OutOfMemory
        → ReadUp ending first last → Checks (Err f) files setting most first last
    no-row f ending some there is up =
        subst (λ (x : CheckFault). Checks (Err x) files setting most first last) (sym is) (there, ran-out ending some up)

    pub at-end : (r : Result Row CheckFault) → has_files files setting.given ≡ true → RowIs r → IfErr r (λ f. f ≡ fault.OutOfMemory)
        → ReadUp AtEnd first last → Checks r files setting most first last
    at-end (Ok row) there is err up = (row-so row (is files setting most so.read checked), up)
    at-end (Err f) there is err up = no-row f AtEnd tt there err up

    pub row-of : (row : Row) → ((files : Files) (setting : Setting) (most : ℕ) (read : List ℕ) → Checked files setting most read t.0
        → IsRow files setting most read row) → ReadSo (λ (read : List ℕ). IsRow files setting most read row) first last
    row-of row is = row-so row (is files setting most so.read checked)

-- memory ran out for a part
pub part-ran-out : (s t : Checking × ⊤ × ⊤) (first last : Reads)
    → ReadSo (λ (read : List ℕ). TakenUntil Takes (λ (bytes : List ℕ) (u v : Checking × ⊤ × ⊤). 0 < length bytes) read s t) first last
    → ReadUp BrokenOff first last → RanOut first last
part-ran-out s t first last so up =
    let until = so.holds in
    let some : 0 < length so.read = omega (arith, until.stops, ap length until.is, length-append until.first until.rest) in
    record { ending = BrokenOff; so = record { read = so.read; received = so.received; consumes = so.consumes; holds = some }; up = up }
