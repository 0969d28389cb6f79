-- A text that is encoded part by part is encoded as a whole.
use Rattle.std.proofs.Common.{◌≡◌, ℕ, suc, ◌+◌, ◌<◌, Bool, true, false, List, [], ◌∷◌, ◌++◌}
use Rattle.std.proofs.Common.{Option, Result, Ok, Err, length, take, refl, sym, ap, ◌∙◌, arith, append_assoc, append-nil}
use Rattle.std.specs.Prelude.{⊤, if◌then◌else◌}
use Rattle.enc_names.specs.declared.encoding.Encoding.{Encoding, TheVariants.Iso2022Jp}
use Rattle.index_loader.specs.declared.family.Family.{Family}
use Rattle.index_loader.specs.declared.family.Family.TheVariants as of
use Rattle.index_loader.specs.{Files.Files, Files.has_files, Files.indexes_of, Index.Loaded}
use Rattle.iso2022jp.specs.declared.output.OutputState.{OutputState, TheVariants.Ascii}
use Rattle.iso2022jp.specs.Iso2022JpEncoder.{iso_2022_jp_encoder, pointer_in}
use Rattle.encoders.specs.{Encode.bytes_only, Encode.bytes_over, Encode.encoded, Encode.encoded_over}
use Rattle.encoders.specs.{Encode.from_fault, Encode.is_html, Gb18030.is_gbk, Stateless.stateless}
use Rattle.encoders.specs.Parts.{HasBytes, IsEncodedPart, IsOfTarget, encoded_part, in_parts, in_state, iso_part, iso_part_in, part_after, part_bytes}
use Rattle.encoders.specs.Steps.{FromFault, IsFrom, Put, Table, Unencodable, behind, encoded_from, ended, no_memory_from, onward, taken, unencodable_from}
use Rattle.encoders.specs.declared.{fault.EncodeFault.EncodeFault, mode.EncodeMode.EncodeMode}
use Rattle.encoders.specs.declared.fault.EncodeFault.TheVariants.{NoIndex, NoEncoder, Unencodable as unencodable, OutOfMemory}

-- ---- code points that are counted from another number on

abbrev shifted : {S : Type 0} → ℕ → Result (Put S) Unencodable → Result (Put S) Unencodable
shifted n (Ok put) = Ok put
shifted n (Err e) = Err (record { index = n + e.index; code_point = e.code_point })

shifted-none : {S : Type 0} (r : Result (Put S) Unencodable) → shifted 0 r ≡ r
shifted-none (Ok put) = refl
shifted-none (Err e) = let same : 0 + e.index ≡ e.index = omega arith in rw same

shifted-twice : {S : Type 0} (n : ℕ) (r : Result (Put S) Unencodable) → shifted n (shifted 1 r) ≡ shifted (n + 1) r
shifted-twice n (Ok put) = refl
shifted-twice n (Err e) = let same : n + (1 + e.index) ≡ n + 1 + e.index = omega arith in rw same

behind-none : {S : Type 0} (r : Result (Put S) Unencodable) → behind [] r ≡ r
behind-none (Ok put) = refl
behind-none (Err e) = refl

behind-shifted : {S : Type 0} (bs : List ℕ) (n : ℕ) (r : Result (Put S) Unencodable) → behind bs (shifted n r) ≡ shifted n (behind bs r)
behind-shifted bs n (Ok put) = refl
behind-shifted bs n (Err e) = refl

behind-twice : {S : Type 0} (bs ds : List ℕ) (r : Result (Put S) Unencodable) → behind bs (behind ds r) ≡ behind (bs ++ ds) r
behind-twice bs ds (Ok put) = rw append_assoc
behind-twice bs ds (Err e) = refl

behind-fails : {S : Type 0} (bs : List ℕ) (r : Result (Put S) Unencodable) (e : Unencodable) → behind bs r ≡ Err e → r ≡ Err e
behind-fails bs (Ok put) e h = absurd (cc)
behind-fails bs (Err d) e h = h

onward-shifted : {S : Type 0} (n i : ℕ) (r : Result (Put S) ℕ) (f g : S → Result (Put S) Unencodable)
    → ((s : S) → f s ≡ shifted n (g s)) → onward (n + i) r f ≡ shifted n (onward i r g)
onward-shifted n i (Ok put) f g alike = rw (alike put.state, behind-shifted put.bytes n (g put.state))
onward-shifted n i (Err c) f g alike = refl

-- ---- a part and the rest

-- a part of n code points, and then the rest
abbrev followed : {S : Type 0} → ℕ → Result (Put S) Unencodable → (S → Result (Put S) Unencodable) → Result (Put S) Unencodable
followed n (Ok put) rest = behind put.bytes (shifted n (rest put.state))
followed n (Err e) rest = Err e

module _ {S : Type 0} (table : Table S) (html : Bool) where
  from-shifted : (n i : ℕ) (s : S) (cs : List ℕ) → encoded_from table html (n + i) s cs ≡ shifted n (encoded_from table html i s cs)
  from-shifted n i s [] = refl
  from-shifted n i s (c ∷ cs) =
      let same : n + i + 1 ≡ n + (i + 1) = omega arith in
      onward-shifted n i (taken table html 2 s c) _ (λ next. encoded_from table html (i + 1) next cs)
      (λ next. rw same (from-shifted n (i + 1) next cs))

  -- the rest, counted from the next number on
  rest-on : (i n : ℕ) (bs : List ℕ) (r : Result (Put S) Unencodable) (rest : List ℕ)
      → behind bs (followed n r (λ t. encoded_from table html (i + 1) t rest)) ≡ followed (n + 1) (behind bs r) (λ t. encoded_from table html i t rest)
  rest-on i n bs (Err e) rest = refl
  rest-on i n bs (Ok put) rest =
      let same : i + 1 ≡ 1 + i = omega arith in
      rw (
        same,
        from-shifted 1 i put.state rest,
        shifted-twice n (encoded_from table html i put.state rest),
        behind-twice bs put.bytes (shifted (n + 1) (encoded_from table html i put.state rest)),
      )

  onward-append : (i : ℕ) (r : Result (Put S) ℕ) (cs rest : List ℕ)
      → ((s : S) → encoded_from table html (i + 1) s (cs ++ rest)
      ≡ followed (length cs) (encoded_from table html (i + 1) s cs) (λ t. encoded_from table html (i + 1) t rest))
      → onward i r (λ next. encoded_from table html (i + 1) next (cs ++ rest))
      ≡ followed (length cs + 1) (onward i r (λ next. encoded_from table html (i + 1) next cs)) (λ t. encoded_from table html i t rest)
  onward-append i (Err c) cs rest more = refl
  onward-append i (Ok put) cs rest more =
      rw (more put.state, rest-on i (length cs) put.bytes (encoded_from table html (i + 1) put.state cs) rest)

  pub from-append : (i : ℕ) (s : S) (cs rest : List ℕ)
      → encoded_from table html i s (cs ++ rest) ≡ followed (length cs) (encoded_from table html i s cs) (λ t. encoded_from table html i t rest)
  from-append i s [] rest = rw (behind-none (shifted 0 (encoded_from table html i s rest)), shifted-none (encoded_from table html i s rest))
  from-append i s (c ∷ cs) rest =
      let same : length cs + 1 ≡ length (c ∷ cs) = omega arith in
      rw same at (onward-append i (taken table html 2 s c) cs rest (λ next. from-append (i + 1) next cs rest))

  -- what comes before a code point without bytes
  pub record Before (i : ℕ) (s : S) (cs : List ℕ) (e : Unencodable) : Type 0 where
    pub number : ℕ
    pub is : e.index ≡ i + number
    pub within : number < length cs
    pub put : Put S
    pub has : encoded_from table html i s (take number cs) ≡ Ok put

  later : (i : ℕ) (s : S) (c : ℕ) (cs : List ℕ) (e : Unencodable) (first : Put S) → taken table html 2 s c ≡ Ok first
      → Before (i + 1) first.state cs e → Before i s (c ∷ cs) e
  later i s c cs e first is b = record {
    number = suc b.number;
    is = omega (arith, b.is);
    within = omega (arith, b.within);
    put = record { bytes = first.bytes ++ b.put.bytes; state = b.put.state };
    has = rw (is, b.has);
  }

  onward-before : (i : ℕ) (s : S) (c : ℕ) (cs : List ℕ) (e : Unencodable) (r : Result (Put S) ℕ) → taken table html 2 s c ≡ r
      → ((t : S) → encoded_from table html (i + 1) t cs ≡ Err e → Before (i + 1) t cs e)
      → onward i r (λ next. encoded_from table html (i + 1) next cs) ≡ Err e → Before i s (c ∷ cs) e
  onward-before i s c cs e (Err d) is more fails = record {
    number = 0;
    is = let here : record { index = i; code_point = d } ≡ e = cc in omega (arith, ap (λ (u : Unencodable). u.index) (sym here));
    within = omega arith;
    put = record { bytes = []; state = s };
    has = refl;
  }
  onward-before i s c cs e (Ok first) is more fails =
      later i s c cs e first is (more first.state (behind-fails first.bytes (encoded_from table html (i + 1) first.state cs) e fails))

  pub from-before : (i : ℕ) (s : S) (cs : List ℕ) (e : Unencodable) → encoded_from table html i s cs ≡ Err e → Before i s cs e
  from-before i s [] e fails = absurd (cc)
  from-before i s (c ∷ cs) e fails = onward-before i s c cs e (taken table html 2 s c) refl (λ t. from-before (i + 1) t cs e) fails

-- ---- encoders that keep no state

stateless-join : (n : ℕ) (s : OutputState) (r q : Result (Put ⊤) Unencodable)
    → in_state s (bytes_only (followed n r (λ t. q))) ≡ in_parts n (in_state s (bytes_only r)) (λ t. in_state t (bytes_only q))
stateless-join n s (Err e) q = refl
stateless-join n s (Ok put) (Ok more) = refl
stateless-join n s (Ok put) (Err e) = refl

-- a family whose encoder keeps no state
abbrev IsStateless : Family (Option Loaded) → Type 0
IsStateless (of.Iso2022Jp jis0208 katakana) = ⊥
IsStateless family = ⊤

module _ (gbk : Bool) (files : Files) (html : Bool) where
  over-join : (family : Family (Option Loaded)) → IsStateless family → (s : OutputState) (cs rest : List ℕ)
      → in_state s (encoded_over gbk files family html (cs ++ rest))
      ≡ in_parts (length cs) (in_state s (encoded_over gbk files family html cs)) (λ t. in_state t (encoded_over gbk files family html rest))
  over-join of.Replacement is s cs rest = refl
  over-join (of.Iso2022Jp jis0208 katakana) is s cs rest = absurd is
  over-join family is s cs rest =
      rw (from-append (stateless _) html 0 tt cs rest) (stateless-join (length cs) s _ _)

  has-join : (there : Bool) (family : Family (Option Loaded)) → IsStateless family → (s : OutputState) (cs rest : List ℕ)
      → in_state s (if there then encoded_over gbk files family html (cs ++ rest) else Err NoIndex)
      ≡ in_parts (length cs) (in_state s (if there then encoded_over gbk files family html cs else Err NoIndex))
      (λ t. in_state t (if there then encoded_over gbk files family html rest else Err NoIndex))
  has-join true family is s cs rest = over-join family is s cs rest
  has-join false family is s cs rest = refl

-- ---- ISO-2022-JP

iso-last : (end : Bool) (n : ℕ) (bs : List ℕ) (q : Result (Put OutputState) Unencodable)
    → iso_part (ended end (behind bs (shifted n q))) ≡ behind bs (part_after n (iso_part (ended end q)))
iso-last end n bs (Ok put) = rw append_assoc
iso-last end n bs (Err e) = refl

iso-followed : (end : Bool) (n : ℕ) (r : Result (Put OutputState) Unencodable) (rest : OutputState → Result (Put OutputState) Unencodable)
    → iso_part (ended end (followed n r rest)) ≡ in_parts n (iso_part (ended false r)) (λ t. iso_part (ended end (rest t)))
iso-followed end n (Err e) rest = refl
iso-followed end n (Ok put) rest = rw append-nil (iso-last end n put.bytes (rest put.state))

-- a fault from an output state on, as one of the part
pub iso-failed : (there : Bool) (w v : Result (Put OutputState) Unencodable) (f : FromFault) → there ≡ true → w ≡ v → IsFrom w (Err f)
    → IsEncodedPart (if there then iso_part v else Err NoIndex) (Err (from_fault f))
iso-failed true w v (unencodable_from e) is same h = ap iso_part (sym same ∙ h)
iso-failed true w v no_memory_from is same h = tt
iso-failed false w v f is same h = absurd (cc)

iso-join : (files : Files) (html there : Bool) (s : OutputState) (cs rest : List ℕ) (end : Bool)
    → (if there then iso_part (ended end (encoded_from (iso_2022_jp_encoder (pointer_in files)) html 0 s (cs ++ rest))) else Err NoIndex)
    ≡ in_parts (length cs) (if there then iso_part (ended false (encoded_from (iso_2022_jp_encoder (pointer_in files)) html 0 s cs)) else Err NoIndex)
    (λ t. if there then iso_part (ended end (encoded_from (iso_2022_jp_encoder (pointer_in files)) html 0 t rest)) else Err NoIndex)
iso-join files html true s cs rest end =
    let table = iso_2022_jp_encoder (pointer_in files) in
    rw (from-append table html 0 s cs rest) (iso-followed end (length cs) (encoded_from table html 0 s cs) (λ t. encoded_from table html 0 t rest))
iso-join files html false s cs rest end = refl

-- ---- all encodings

pub part-join : (files : Files) (encoding : Encoding) (mode : EncodeMode) (s : OutputState) (cs rest : List ℕ) (end : Bool)
    → encoded_part files encoding mode s (cs ++ rest) end
    ≡ in_parts (length cs) (encoded_part files encoding mode s cs false) (λ t. encoded_part files encoding mode t rest end)
unfolding encoded_part encoded
part-join files Iso2022Jp mode s cs rest end = iso-join files (is_html mode) (has_files files Iso2022Jp) s cs rest end
part-join files encoding mode s cs rest end =
    has-join (is_gbk encoding) files (is_html mode) (has_files files encoding) (indexes_of files encoding) tt s cs rest

iso-whole : (r : Result (Put OutputState) Unencodable) → part_bytes (iso_part r) ≡ bytes_only r
iso-whole (Ok put) = refl
iso-whole (Err e) = refl

iso-there : (there : Bool) (r : Result (Put OutputState) Unencodable)
    → part_bytes (if there then iso_part r else Err NoIndex) ≡ (if there then bytes_only r else Err NoIndex)
iso-there true r = iso-whole r
iso-there false r = refl

stateless-whole : (s : OutputState) (r : Result (List ℕ) EncodeFault) → part_bytes (in_state s r) ≡ r
stateless-whole s (Ok bytes) = refl
stateless-whole s (Err fault) = refl

pub part-whole : (files : Files) (encoding : Encoding) (mode : EncodeMode) (cs : List ℕ)
    → part_bytes (encoded_part files encoding mode Ascii cs true) ≡ encoded files encoding mode cs
unfolding encoded_part encoded
part-whole files Iso2022Jp mode cs = iso-there (has_files files Iso2022Jp) _
part-whole files encoding mode cs = stateless-whole Ascii _

-- ---- what comes before a code point without bytes

abbrev IsBefore : ℕ → List ℕ → (List ℕ → Result (Put OutputState) EncodeFault) → Type 0
IsBefore index cs part = (index < length cs) × HasBytes (part (take index cs))

found-before : {S : Type 0} (table : Table S) (html : Bool) (s : S) (cs : List ℕ) (e : Unencodable) (part : List ℕ → Result (Put OutputState) EncodeFault)
    → ((ds : List ℕ) (put : Put S) → encoded_from table html 0 s ds ≡ Ok put → HasBytes (part ds))
    → encoded_from table html 0 s cs ≡ Err e → IsBefore e.index cs part
found-before table html s cs e part has fails =
    let b = from-before table html 0 s cs e fails in
    let same : b.number ≡ e.index = omega (arith, b.is) in
    (rw same at b.within, rw same at (has (take b.number cs) b.put b.has))

fault-of : (r : Result (Put ⊤) Unencodable) (s : OutputState) (e : Unencodable) → in_state s (bytes_only r) ≡ Err (unencodable e) → r ≡ Err e
fault-of (Ok put) s e h = absurd (cc)
fault-of (Err d) s e h = ap Err (cc)

iso-fault-of : (end : Bool) (r : Result (Put OutputState) Unencodable) (e : Unencodable) → iso_part (ended end r) ≡ Err (unencodable e) → r ≡ Err e
iso-fault-of end (Ok put) e h = absurd (cc)
iso-fault-of end (Err d) e h = ap Err (cc)

stateless-has : (s : OutputState) (r : Result (Put ⊤) Unencodable) (put : Put ⊤) → r ≡ Ok put → HasBytes (in_state s (bytes_only r))
stateless-has s r put is = (record { bytes = put.bytes; state = s }, rw is)

iso-has : (r : Result (Put OutputState) Unencodable) (put : Put OutputState) → r ≡ Ok put → HasBytes (iso_part (ended false r))
iso-has r put is = (record { bytes = put.bytes ++ []; state = put.state }, rw is)

module _ (gbk : Bool) (files : Files) (html : Bool) where
  over-before : (family : Family (Option Loaded)) → IsStateless family → (s : OutputState) (cs : List ℕ) (e : Unencodable)
      → in_state s (encoded_over gbk files family html cs) ≡ Err (unencodable e)
      → IsBefore e.index cs (λ ds. in_state s (encoded_over gbk files family html ds))
  over-before of.Replacement is s cs e h = absurd (cc)
  over-before (of.Iso2022Jp jis0208 katakana) is s cs e h = absurd is
  over-before family is s cs e h =
      found-before (stateless (bytes_over gbk files.exceptions family)) html tt cs e _ (λ ds put. stateless-has s _ put) (fault-of _ s e h)

  has-before : (there : Bool) (family : Family (Option Loaded)) → IsStateless family → (s : OutputState) (cs : List ℕ) (e : Unencodable)
      → in_state s (if there then encoded_over gbk files family html cs else Err NoIndex) ≡ Err (unencodable e)
      → IsBefore e.index cs (λ ds. in_state s (if there then encoded_over gbk files family html ds else Err NoIndex))
  has-before true family is s cs e h = over-before family is s cs e h
  has-before false family is s cs e h = absurd (cc)

iso-before : (files : Files) (html there : Bool) (s : OutputState) (cs : List ℕ) (end : Bool) (e : Unencodable)
    → (if there then iso_part (ended end (encoded_from (iso_2022_jp_encoder (pointer_in files)) html 0 s cs)) else Err NoIndex) ≡ Err (unencodable e)
    → IsBefore e.index cs (λ ds. if there then iso_part (ended false (encoded_from (iso_2022_jp_encoder (pointer_in files)) html 0 s ds)) else Err NoIndex)
iso-before files html true s cs end e h =
    found-before (iso_2022_jp_encoder (pointer_in files)) html s cs e _ (λ ds put. iso-has _ put) (iso-fault-of end _ e h)
iso-before files html false s cs end e h = absurd (cc)

pub part-before : (files : Files) (encoding : Encoding) (mode : EncodeMode) (s : OutputState) (cs : List ℕ) (end : Bool) (e : Unencodable)
    → encoded_part files encoding mode s cs end ≡ Err (unencodable e)
    → (e.index < length cs) × HasBytes (encoded_part files encoding mode s (take e.index cs) false)
unfolding encoded_part encoded
part-before files Iso2022Jp mode s cs end e h = iso-before files (is_html mode) (has_files files Iso2022Jp) s cs end e h
part-before files encoding mode s cs end e h =
    has-before (is_gbk encoding) files (is_html mode) (has_files files encoding) (indexes_of files encoding) tt s cs e h

-- ---- faults of the target

no-target : {S : Type 0} (r : Result (Put S) Unencodable) (s : OutputState) (fault : EncodeFault) → IsOfTarget fault → bytes_only r ≡ Err fault → ⊥
no-target (Ok put) s fault is h = absurd (cc)
no-target (Err e) s NoIndex is h = absurd (cc)
no-target (Err e) s NoEncoder is h = absurd (cc)
no-target (Err e) s (unencodable d) is h = is
no-target (Err e) s OutOfMemory is h = is

only-bytes : (s : OutputState) (r : Result (List ℕ) EncodeFault) (fault : EncodeFault) → in_state s r ≡ Err fault → r ≡ Err fault
only-bytes s (Ok bytes) fault h = absurd (cc)
only-bytes s (Err f) fault h = ap Err (cc)

iso-no-target : (r : Result (Put OutputState) Unencodable) (fault : EncodeFault) → IsOfTarget fault → iso_part r ≡ Err fault → ⊥
iso-no-target (Ok put) fault is h = absurd (cc)
iso-no-target (Err e) NoIndex is h = absurd (cc)
iso-no-target (Err e) NoEncoder is h = absurd (cc)
iso-no-target (Err e) (unencodable d) is h = is
iso-no-target (Err e) OutOfMemory is h = is

iso-target : (there : Bool) (r q : Result (Put OutputState) Unencodable) (fault : EncodeFault) → IsOfTarget fault
    → (if there then iso_part r else Err NoIndex) ≡ Err fault → (if there then iso_part q else Err NoIndex) ≡ Err fault
iso-target true r q fault is h = absurd (iso-no-target r fault is h)
iso-target false r q fault is h = h

module _ (gbk : Bool) (files : Files) (html : Bool) where
  over-target : (family : Family (Option Loaded)) → IsStateless family → (cs ds : List ℕ) (fault : EncodeFault) → IsOfTarget fault
      → encoded_over gbk files family html cs ≡ Err fault → encoded_over gbk files family html ds ≡ Err fault
  over-target of.Replacement none cs ds fault is h = h
  over-target (of.Iso2022Jp jis0208 katakana) none cs ds fault is h = absurd none
  over-target family none cs ds fault is h = absurd (no-target _ Ascii fault is h)

  has-target : (there : Bool) (family : Family (Option Loaded)) → IsStateless family → (s t : OutputState) (cs ds : List ℕ) (fault : EncodeFault)
      → IsOfTarget fault → in_state s (if there then encoded_over gbk files family html cs else Err NoIndex) ≡ Err fault
      → in_state t (if there then encoded_over gbk files family html ds else Err NoIndex) ≡ Err fault
  has-target true family none s t cs ds fault is h =
      ap (in_state t) (over-target family none cs ds fault is (only-bytes s _ fault h))
  has-target false family none s t cs ds fault is h = h

pub part-target : (files : Files) (encoding : Encoding) (mode : EncodeMode) (s t : OutputState) (cs ds : List ℕ) (end last : Bool) (fault : EncodeFault)
    → IsOfTarget fault → encoded_part files encoding mode s cs end ≡ Err fault → encoded_part files encoding mode t ds last ≡ Err fault
unfolding encoded_part encoded
part-target files Iso2022Jp mode s t cs ds end last fault is h = iso-target (has_files files Iso2022Jp) _ _ fault is h
part-target files encoding mode s t cs ds end last fault is h =
    has-target (is_gbk encoding) files (is_html mode) (has_files files encoding) (indexes_of files encoding) tt s t cs ds fault is h
