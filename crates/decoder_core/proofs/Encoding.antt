-- Code points one after another.
use Rattle.std.proofs.Common.{◌≡◌, ℕ, ◌+◌, ◌-◌, ◌≤◌, Bool, List, [], ◌∷◌, ◌++◌, All, Result, Ok, Err, length, take, drop, refl, sym, arith, append_assoc, ap}
use Rattle.std.proofs.{Common.length-append, Common.length-take, Common.take-take, lemmas.List.Elements.All-head, lemmas.List.Elements.All-tail}
use Rattle.decoder_core.proofs.Prelude.{chars, IsUtf8, IsCharBoundary, encode_utf8, len_utf8, nil_from_length, take-append-drop, IsCharBoundary-from_drop}
use Rattle.decoder_core.proofs.Prelude.{IsUtf8-past_char, chars-nil, chars_past_char, encode_ascii, len_utf8_bounds, length-encode, PutOne, PutAll, fault_at}
use Rattle.decoder_core.proofs.Prelude.{Put, PutsItself, onward, taken, encoded_from}
use Rattle.decoder_core.specs.declared.fault.{PutFault.PutFault, Unencodable.Unencodable}
use Rattle.decoder_core.specs.declared.fault.PutFault.TheVariants.{Unencodable as unencodable_here, OutOfMemory}
use Rattle.decoder_core.specs.{EncoderSteps.Table, EncoderSteps.behind, EncoderRuns.IsRun}

abbrev got : {S E : Type 0} → Put S → Result (Put S) E → Put S
got other (Ok put) = put
got other (Err e) = other

behind-behind : {S E : Type 0} (xs ys : List ℕ) (r : Result (Put S) E) → behind xs (behind ys r) ≡ behind (xs ++ ys) r
behind-behind xs ys (Ok put) = rw append_assoc
behind-behind xs ys (Err e) = refl

behind-nil : {S E : Type 0} (r : Result (Put S) E) → behind [] r ≡ r
behind-nil (Ok put) = refl
behind-nil (Err e) = refl

behind-err : {S E : Type 0} (xs : List ℕ) (r : Result (Put S) E) (e : E) → behind xs r ≡ Err e → r ≡ Err e
behind-err xs (Ok put) e h = absurd (cc)
behind-err xs (Err d) e h = h

onward-goes : {S : Type 0} (now later : List ℕ) (index : ℕ) (next : S) (r : Result (Put S) ℕ) (rest : S → Result (Put S) Unencodable)
    → behind now r ≡ Ok (record { bytes = later; state = next }) → behind now (onward index r rest) ≡ behind later (rest next)
onward-goes now later index next (Ok put) rest e =
    rw (behind-behind now put.bytes (rest put.state)) (ap (λ (p : Put _). behind p.bytes (rest p.state)) (ap (got put) e))
onward-goes now later index next (Err c) rest e = absurd (cc)

-- a code point takes at least one byte
pub fewer : (text rest : List ℕ) (c : ℕ) → text ≡ encode_utf8 c ++ rest → length rest + 1 ≤ length text
fewer text rest c parts =
    let e : length text ≡ len_utf8 c + length rest = rw (parts, length-append, length-encode) refl in
    let w = (len_utf8_bounds c).0 in
    omega arith

module _ {S : Type 0} (table : Table S) (html : Bool) where
  -- a code point that was put
  pub goes : (now later : List ℕ) (index : ℕ) (s next : S) (c : ℕ) (cs : List ℕ)
      → behind now (taken table html 2 s c) ≡ Ok (record { bytes = later; state = next })
      → behind later (encoded_from table html (index + 1) next cs) ≡ behind now (encoded_from table html index s (c ∷ cs))
  goes now later index s next c cs e = sym (onward-goes now later index next (taken table html 2 s c) (λ next. encoded_from table html (index + 1) next cs) e)

  -- a code point that was not
  pub stops-at : (f : PutFault) (now later old new : List ℕ) (index : ℕ) (s : S) (c : ℕ) (cs : List ℕ) (whole : Result (Put S) Unencodable)
      → PutOne (taken table html 2 s c) now (Err f) later → behind now (encoded_from table html index s (c ∷ cs)) ≡ behind old whole
      → PutAll whole old (Err (fault_at index f)) new
  stops-at (unencodable_here d) now later old new index s c cs whole fails held = behind-err old whole _ (rw fails at (sym held))
  stops-at OutOfMemory now later old new index s c cs whole fails held = tt

  -- a run of code points that are put as their bytes
  run-goes : (index : ℕ) (s : S) (run rest text : List ℕ) → text ≡ run ++ rest → IsUtf8 text → All (PutsItself table s) run
      → IsUtf8 rest × (encoded_from table html index s (chars text) ≡ behind run (encoded_from table html (index + length run) s (chars rest)))
  run-goes index s [] rest text parts is plain =
      let same : index + 0 ≡ index = omega arith in
      (rw parts at is, rw (parts, same, behind-nil (encoded_from table html index s (chars rest))))
  run-goes index s (b ∷ run) rest text parts is plain =
      let head = All-head (PutsItself table s) b run plain in
      let valid : text ≡ encode_utf8 b ++ (run ++ rest) = rw (encode_ascii b head.0) parts in
      let others = run-goes (index + 1) s run rest (run ++ rest) refl (IsUtf8-past_char text (run ++ rest) b is valid)
      (All-tail (PutsItself table s) b run plain) in
      let same : index + 1 + length run ≡ index + length (b ∷ run) = omega arith in
      (others.0, rw (chars_past_char text (run ++ rest) b is valid, head.1, others.1, behind-behind (b ∷ []) run, same))

  -- the same, after what was put
  pub past-run : (index : ℕ) {s : S} {text rest now later : List ℕ} → IsUtf8 text → IsRun table s text rest now later
      → IsUtf8 rest × (length rest ≤ length text)
      × (behind later (encoded_from table html (index + (length text - length rest)) s (chars rest))
      ≡ behind now (encoded_from table html index s (chars text)))
  past-run index {s} {text} {rest} {now} is run =
      let parts = run-goes index s run.run rest text run.parts is run.plain in
      let long : length text ≡ length run.run + length rest = rw run.parts (length-append run.run rest) in
      let same : index + (length text - length rest) ≡ index + length run.run = omega arith in
      (parts.0, omega arith, rw (same, run.put, parts.1, behind-behind now run.run))

  -- the same, if a code point is after the run
  pub record IsPastRun (index : ℕ) (s : S) (text rest now later others : List ℕ) (c : ℕ) : Type 0 where
    pub valid : IsUtf8 others
    pub within : length rest ≤ length text
    pub less : length others + 1 ≤ length rest
    pub whole : behind later (encoded_from table html (index + (length text - length rest)) s (c ∷ chars others))
        ≡ behind now (encoded_from table html index s (chars text))

  pub past-run-char : (index : ℕ) {s : S} {text rest now later : List ℕ} (others : List ℕ) (c : ℕ) → IsUtf8 text → IsRun table s text rest now later
      → rest ≡ encode_utf8 c ++ others → IsPastRun index s text rest now later others c
  past-run-char index {rest = rest} others c is run parts =
      let ran = past-run index is run in
      record {
        valid = IsUtf8-past_char rest others c ran.0 parts;
        within = ran.1;
        less = fewer rest others c parts;
        whole = rw (chars_past_char rest others c ran.0 parts) at ran.2;
      }

  -- a text may be cut after such a run
  pub run-boundary : (s : S) (text : List ℕ) (n : ℕ) → IsUtf8 text → n ≤ length text → All (PutsItself table s) (take n text) → IsCharBoundary text n
  run-boundary s text n is le plain =
      IsCharBoundary-from_drop text n le (run-goes 0 s (take n text) (drop n text) text (sym (take-append-drop n text)) is plain).0

  -- a run that was looked for in the first k bytes
  pub near-run : (s : S) (k n : ℕ) (near text : List ℕ) → near ≡ take k text → n ≤ length near → All (PutsItself table s) (take n near)
      → (n ≤ length text) × All (PutsItself table s) (take n text)
  near-run s k n near text near_is le plain =
      let short = length-take k text in
      let within : n ≤ length (take k text) = rw near_is at le in
      (omega (arith, short, within), rw (near_is, take-take n k text (omega (arith, short, within))) at plain)

pub chars_of_empty : (text : List ℕ) → length text ≡ 0 → chars text ≡ []
chars_of_empty text none = rw (nil_from_length text none) chars-nil
