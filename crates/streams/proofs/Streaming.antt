-- A stream that is read to its end, by what its bytes decode to.
use Rattle.std.proofs.Common.{◌≡◌, refl, sym, ap, ◌∙◌, subst, ℕ, ◌+◌, ◌<◌, ◌≤◌, Bool, true, false, List, [], ◌∷◌, ◌++◌, length, append_assoc}
use Rattle.std.proofs.Common.{add-zero, append-nil, arith, length-append, Option, Some, None, is_some, Result, Ok, Err, take}
use Rattle.std.proofs.lemmas.List.{take-append-le}
use Rattle.std.specs.{Prelude.⊤, Io.KnownBytes.Appends, Io.KnownBytes.Consumes}
use Rattle.devices.specs.Devices.{AppendsPart, Reads, Writes}
use Rattle.devices.specs.Reading.{Pumps, ReadSo, ReadUp, Taken, TakenUntil, TakesEach, joined}
use Rattle.devices.specs.Reading.{AtEnd, BrokenOff}
use Rattle.devices.specs.declared.reading.Stop.{Stop}
use Rattle.devices.specs.declared.reading.Stop.TheVariants as stop
use Rattle.enc_names.specs.declared.encoding.Encoding.{Encoding}
use Rattle.index_loader.specs.Files.{Files}
use Rattle.iso2022jp.specs.declared.output.OutputState.{OutputState, TheVariants.Ascii}
use Rattle.decoder_core.specs.{declared.item.Ended.Ended, declared.fault.Unencodable.Unencodable, Queue.Fed, Queue.feed}
use Rattle.codec.specs.{Any.any, Any.any_start, Texts.ended_text, declared.state.AnyState.AnyState}
use Rattle.encoders.specs.{Encode.encoded, Parts.HasBytes, Parts.IsOfTarget, Parts.encoded_part, Parts.in_parts, Parts.part_after, Parts.part_bytes}
use Rattle.encoders.specs.{Steps.Put, Steps.behind}
use Rattle.encoders.specs.declared.{fault.EncodeFault.EncodeFault, mode.EncodeMode.EncodeMode}
use Rattle.encoders.specs.declared.fault.EncodeFault.TheVariants as encode
use Rattle.streams.specs.declared.conversion.{Conversion.Conversion, ConvertMode.ConvertMode, PartFault.PartFault}
use Rattle.streams.specs.declared.conversion.ConvertMode.TheVariants.{Fatal}
use Rattle.streams.specs.declared.conversion.PartFault.TheVariants as fault
use Rattle.streams.specs.declared.stream.StreamFault.{StreamFault}
use Rattle.streams.specs.declared.stream.StreamFault.TheVariants as stream
use Rattle.streams.specs.Conversions.{Converting, ConvertsPart, Ends, Fails, Holds, IsReady, Job, StopsAtCodePoint, StopsAtError, StopsPart}
use Rattle.streams.specs.Conversions.{StopsWithin}
use Rattle.streams.specs.Conversions.{decided, encode_mode, encoded_items, is_strict, part_of, whole, with_out}
use Rattle.streams.specs.Gathering.{kept, stops}
use Rattle.streams.specs.Streams.{Begins, BeginsNot, BeginsWith, BrokeOff, Converted, Converts, GaveOut, HasError, LacksCodePoint, RunsOut, Starts}
use Rattle.streams.specs.Streams.{StopsAt, StopsBy}
use Rattle.streams.specs.Streams.{Whatever, front_encoded, text_of}
use Rattle.streams.proofs.Continuing.{Joins}
use Rattle.streams.proofs.Deciding.{Ahead, Decodes, Runs, ahead, ahead-kept, ahead-stops, ahead-text, before-is, fatal-is, fatal-mode, items_at}
use Rattle.streams.proofs.Deciding.{kept-all, kept-front, text-is, whatever}

none-read : (left : Option (List ℕ)) → Consumes left left []
none-read None = tt
none-read (Some xs) = refl

-- ---- what encoders do over parts

abbrev pub Before : Type 0
Before = (files : Files) (encoding : Encoding) (mode : EncodeMode) (s : OutputState) (cs : List ℕ) (end : Bool) (e : Unencodable)
    → encoded_part files encoding mode s cs end ≡ Err (encode.Unencodable e)
    → (e.index < length cs) × HasBytes (encoded_part files encoding mode s (take e.index cs) false)

abbrev pub Wholes : Type 0
Wholes = (files : Files) (encoding : Encoding) (mode : EncodeMode) (cs : List ℕ)
    → part_bytes (encoded_part files encoding mode Ascii cs true) ≡ encoded files encoding mode cs

-- a text that is refused before the end is refused as a front of a text
module _ (joins : Joins) (before : Before) (wholes : Wholes) (files : Files) (to : Encoding) (mode : EncodeMode) (cs : List ℕ) (e : Unencodable) where
  no-end : (s : OutputState) (bs : List ℕ) (r : Result (Put OutputState) EncodeFault)
      → ((d : Unencodable) → r ≡ Err (encode.Unencodable d) → d.index < 0) → e.index < length cs
      → behind bs (part_after (length cs) r) ≡ Err (encode.Unencodable e) → ⊥
  no-end s bs (Ok put) none within is = absurd (cc)
  no-end s bs (Err (encode.Unencodable d)) none within is = let small = none d refl in absurd (omega arith)
  no-end s bs (Err encode.NoIndex) none within is = absurd (cc)
  no-end s bs (Err encode.NoEncoder) none within is = absurd (cc)
  no-end s bs (Err encode.OutOfMemory) none within is = absurd (cc)

  open-end : (r : Result (Put OutputState) EncodeFault) → encoded_part files to mode Ascii cs false ≡ r → e.index < length cs
      → in_parts (length cs) r (λ t. encoded_part files to mode t [] true) ≡ Err (encode.Unencodable e) → r ≡ Err (encode.Unencodable e)
  open-end (Ok put) is within whole =
      absurd (no-end put.state put.bytes (encoded_part files to mode put.state [] true)
      (λ d h. (before files to mode put.state [] true d h).0) within whole)
  open-end (Err f) is within whole = whole

  pub without-end : (end : Bool) → encoded_part files to mode Ascii cs end ≡ Err (encode.Unencodable e)
      → encoded_part files to mode Ascii cs false ≡ Err (encode.Unencodable e)
  without-end false is = is
  without-end true is =
      open-end (encoded_part files to mode Ascii cs false) refl (before files to mode Ascii cs true e is).0
      (sym (joins files to mode Ascii cs [] true) ∙ ap (λ (xs : List ℕ). encoded_part files to mode Ascii xs true) (append-nil cs) ∙ is)

  pub refuses-all : (rest : List ℕ) → encoded_part files to mode Ascii cs false ≡ Err (encode.Unencodable e)
      → encoded files to mode (cs ++ rest) ≡ Err (encode.Unencodable e)
  refuses-all rest is =
      sym (wholes files to mode (cs ++ rest))
      ∙ ap part_bytes (joins files to mode Ascii cs rest true
      ∙ ap (λ (r : Result (Put OutputState) EncodeFault). in_parts (length cs) r (λ t. encoded_part files to mode t rest true)) is)

-- ---- how it ends

is-none : {A : Type 0} (x : Option A) → is_some x ≡ false → x ≡ None
is-none None is = refl
is-none (Some a) is = absurd (cc)

fatal-none : (mode : ConvertMode) (es : List Ended) → stops (is_strict mode) es ≡ false → mode ≡ Fatal → stops true es ≡ false
fatal-none mode es on is = rw is at on

module _ (joins : Joins) (before : Before) (wholes : Wholes) (files : Files) (c : Conversion) (first : Converting) (starts : Starts files c first) where
  abbrev job : Job
  job = record { decoder = starts.decoder; files = files; to = c.to; mode = c.mode }

  abbrev strict : Bool
  strict = is_strict c.mode

  abbrev mode : EncodeMode
  mode = encode_mode c.mode

  converted : (read : List ℕ) (began now : Option (List ℕ)) → Ends job began read now → Converted files c read began now
  converted read began now h = record {
    fatal = λ is. is-none _ (fatal-is files c job starts.decodes starts.runs read ∙ fatal-none c.mode (whole job read) h.on is);
    bytes = h.put.bytes;
    is =
        ap (encoded files c.to mode) (text-is files c job starts.decodes starts.runs read ∙ sym (ap ended_text (kept-all strict (whole job read) h.on)))
        ∙ sym (wholes files c.to mode (ended_text (kept strict (whole job read)))) ∙ ap part_bytes h.is;
    wrote = h.wrote;
  }

  -- the text of all, by what is decided
  module _ (at_end : Bool) (read : List ℕ) where
    abbrev es : List Ended
    es = items_at at_end job read

    abbrev front : List ℕ
    front = ended_text (kept strict es)

    abbrev AheadOf : List ℕ → Type 0
    AheadOf more = Ahead es (whole job (read ++ more))

    aheads : Whatever at_end AheadOf
    aheads = ahead files c job starts.decodes starts.runs at_end read

    text-more : (more : List ℕ) → AheadOf more → (rest : List ℕ) × (text_of files c (read ++ more) ≡ front ++ rest)
    text-more more a =
        let k = kept-front strict es in (
          k.0 ++ ended_text a.more,
          text-is files c job starts.decodes starts.runs (read ++ more) ∙ ahead-text a ∙ ap (λ (cs : List ℕ). cs ++ ended_text a.more) k.1
              ∙ append_assoc front k.0 (ended_text a.more),
        )

    begins-with : BeginsWith files c read at_end front
    begins-with = whatever at_end text-more aheads

    has-error : (began now : Option (List ℕ)) → StopsAtError job began es now → HasError files c read at_end began now
    has-error began now h =
        let is = fatal-mode c.mode es h.stopped in
        let stopped : stops true es ≡ true = ap (λ (m : ConvertMode). stops (is_strict m) es) (sym is) ∙ h.stopped in
        record {
          mode = is;
          fatal =
              whatever at_end (λ more a. fatal-is files c job starts.decodes starts.runs (read ++ more) ∙ ahead-stops a true stopped) aheads;
          text = front;
          until = whatever at_end (λ more a. before-is files c job starts.decodes starts.runs (read ++ more) ∙ ahead-kept a true stopped
              ∙ ap (λ (m : ConvertMode). ended_text (kept (is_strict m) es)) (sym is)) aheads;
          put = h.put;
          is = h.is;
          wrote = h.wrote;
        }

    lacks : (d : ℕ) (began now : Option (List ℕ)) → StopsAtCodePoint d job began es at_end now → LacksCodePoint d files c read at_end began now
    lacks d began now h =
        let e : Unencodable = record { index = h.index; code_point = d } in
        let refused = without-end joins before wholes files c.to mode front e h.end h.is in
        let within = (before files c.to mode Ascii front false e refused).0 in
        record {
          index = h.index;
          lacks = whatever at_end (λ more b. ap (encoded files c.to mode) b.1
              ∙ refuses-all joins before wholes files c.to mode front e b.0 refused) begins-with;
          put = h.put;
          is = whatever at_end (λ more b. ap (λ (cs : List ℕ). front_encoded files c (take h.index cs)) b.1
              ∙ ap (front_encoded files c) (take-append-le h.index front b.0 (omega arith)) ∙ h.before) begins-with;
          wrote = h.wrote;
        }

    broke-off : (began now : Option (List ℕ)) (from_end : Bool) → (from_end ≡ true → at_end ≡ true) → StopsWithin job began es from_end now
        → BrokeOff files c read at_end began now
    broke-off began now from_end only h = record {
      text = h.front;
      begins = whatever at_end (λ more b. (
        h.rest ++ b.0,
        b.1 ∙ ap (λ (cs : List ℕ). cs ++ b.0) h.parts ∙ append_assoc h.front h.rest b.0,
      )) begins-with;
      end = h.end;
      only = λ is. only (h.only is);
      put = h.put;
      is = h.is;
      bytes = h.bytes;
      left = h.left;
      cut = h.cut;
      wrote = h.wrote;
    }

    stops-by : (began now : Option (List ℕ)) (f : PartFault) → Fails f job began es at_end now → StopsBy f files c read at_end began now
    stops-by began now (fault.Malformed spot encoding) h = has-error began now h
    stops-by began now (fault.Unencodable spot d) h = lacks d began now h
    stops-by began now fault.Write h = broke-off began now at_end (λ is. is) h
    stops-by began now fault.OutOfMemory h = broke-off began now false (λ is. absurd (cc)) h

  gave-out : (read : List ℕ) (x : Converting) (began now : Option (List ℕ)) → Holds job began read x now → GaveOut files c read began now
  gave-out read x began now h =
      let all = ap ended_text (kept-all strict (decided job read) h.on) in
      record {
        decoder = starts.decoder;
        is_decoder = starts.is_decoder;
        text = ended_text (kept strict (decided job read));
        all = all;
        begins = begins-with false read;
        put = record { bytes = h.bytes; state = x.out };
        is = h.put;
        wrote = h.wrote;
      }

  runs-out : (f : PartFault) (read : List ℕ) → 0 < length read → RunsOut f false read
  runs-out fault.OutOfMemory read some = some
  runs-out fault.Write read some = tt
  runs-out (fault.Malformed spot encoding) read some = tt
  runs-out (fault.Unencodable spot d) read some = tt

  at-the-end : (f : PartFault) (read : List ℕ) → RunsOut f true read
  at-the-end fault.OutOfMemory read = tt
  at-the-end fault.Write read = tt
  at-the-end (fault.Malformed spot encoding) read = tt
  at-the-end (fault.Unencodable spot d) read = tt

  -- ---- the parts

  module _ {W : Type 0} (took : W → Writes) where
    abbrev State : Type 0
    State = Converting × ⊤ × W

    abbrev pub Takes : List ℕ → State → State → Type 0
    Takes bytes s t = ConvertsPart bytes s.0 t.0 (took s.2).written (took t.2).written

    abbrev pub Stops : PartFault → List ℕ → State → State → Type 0
    Stops f bytes s t = StopsPart f bytes s.0 (took s.2).written (took t.2).written

    module _ (began : Option (List ℕ)) where
      abbrev HoldsOf : List ℕ → State → Type 0
      HoldsOf read s = Holds job began read s.0 (took s.2).written

      one : (read bytes : List ℕ) (s t : State) → HoldsOf read s → Takes bytes s t → HoldsOf (read ++ bytes) t
      one read bytes s t h takes =
          let more = takes.1 began read (subst (λ (j : Job). Holds j began read s.0 (took s.2).written) (sym h.same) h) in
          subst (λ (j : Job). Holds j began (read ++ bytes) t.0 (took t.2).written) h.same more

      each : (parts : List (List ℕ)) (s t : State) → TakesEach Takes parts s t → HoldsOf [] s → HoldsOf (joined parts) t
      each [] s t is h = subst (λ (x : State). HoldsOf [] x) (sym is) h
      each (part ∷ parts) s t many h = one (joined parts) part many.0 t (each parts s many.0 many.1 h) many.2

      pub taken : (read : List ℕ) (s t : State) → Taken Takes read s t → HoldsOf [] s → HoldsOf read t
      taken read s t h start = subst (λ (xs : List ℕ). HoldsOf xs t) (sym h.is) (each h.parts s t h.each start)

      until : (f : PartFault) (read : List ℕ) (s t : State) → TakenUntil Takes (Stops f) read s t → HoldsOf [] s
          → Fails f job began (decided job read) false (took t.2).written
      until f read s t h start =
          let holds = taken h.first s h.mid h.taken start in
          let fails = h.stops.1 began h.first (subst (λ (j : Job). Holds j began h.first h.mid.0 (took h.mid.2).written) (sym holds.same) holds) in
          let same : Fails f job began (decided job (h.first ++ h.rest)) false (took t.2).written =
          subst (λ (j : Job). Fails f j began (decided j (h.first ++ h.rest)) false (took t.2).written) holds.same fails in
          subst (λ (xs : List ℕ). Fails f job began (decided job xs) false (took t.2).written) (sym h.is) same

      -- by how the reader ended
      module _ (first_reads last_reads : Reads) (s t : State) (start : HoldsOf [] s) where
        abbrev TakenIn : Type 0
        TakenIn = ReadSo (λ read. Taken Takes read s t) first_reads last_reads

        abbrev now : Option (List ℕ)
        now = (took t.2).written

        pub holds-at : (p : TakenIn) → Holds t.0.job began p.read t.0 now
        holds-at p =
            let h = taken p.read s t p.holds start in
            subst (λ (j : Job). Holds j began p.read t.0 now) (sym h.same) h

        same-job : TakenIn → t.0.job ≡ job
        same-job p = (taken p.read s t p.holds start).same

        pub read-failed : TakenIn → ReadSo (λ read. GaveOut files c read began now) first_reads last_reads
        read-failed p = record {
          read = p.read;
          received = p.received;
          consumes = p.consumes;
          holds = gave-out p.read t.0 began now (taken p.read s t p.holds start);
        }

        pub part-failed : (f : PartFault) → ReadSo (λ read. TakenUntil Takes (Stops f) read s t) first_reads last_reads
            → ReadUp BrokenOff first_reads last_reads → StopsAt f files c first_reads last_reads began now
        part-failed f p up = record {
          at_end = false;
          so = record {
            read = p.read;
            received = p.received;
            consumes = p.consumes;
            holds = stops-by false p.read began now f (until f p.read s t p.holds start);
          };
          some = runs-out f p.read (omega (arith, p.holds.stops.0, ap length p.holds.is, length-append p.holds.first p.holds.rest));
          up = up;
        }

        pub still-ready : IsReady s.0.job → TakenIn → IsReady t.0.job
        still-ready ready p = subst IsReady (start.same ∙ sym (same-job p)) ready

        pub ended-so : (later : Option (List ℕ)) (p : TakenIn) → Ends t.0.job began p.read later
            → ReadSo (λ read. Converted files c read began later) first_reads last_reads
        ended-so later p ends = record {
          read = p.read;
          received = p.received;
          consumes = p.consumes;
          holds = converted p.read began later (subst (λ (j : Job). Ends j began p.read later) (same-job p) ends);
        }

        pub end-failed : (later : Option (List ℕ)) (f : PartFault) (p : TakenIn) → Fails f t.0.job began (whole t.0.job p.read) true later
            → ReadUp AtEnd first_reads last_reads → StopsAt f files c first_reads last_reads began later
        end-failed later f p fails up = record {
          at_end = true;
          so = record {
            read = p.read;
            received = p.received;
            consumes = p.consumes;
            holds =
                stops-by true p.read began later f
                (subst (λ (j : Job). Fails f j began (whole j p.read) true later) (same-job p) fails);
          };
          some = at-the-end f p.read;
          up = up;
        }

-- ---- how it begins

abbrev pub Targets : Type 0
Targets = (files : Files) (encoding : Encoding) (mode : EncodeMode) (s t : OutputState) (cs ds : List ℕ) (end last : Bool) (f : EncodeFault)
    → IsOfTarget f → encoded_part files encoding mode s cs end ≡ Err f → encoded_part files encoding mode t ds last ≡ Err f

module _ (files : Files) (c : Conversion) (first : Converting) (starts : Starts files c first) where
  abbrev first_job : Job
  first_job = record { decoder = starts.decoder; files = files; to = c.to; mode = c.mode }

  pub first-part : (r : Result (Put OutputState) EncodeFault) → part_of first [] false ≡ r → front_encoded files c [] ≡ r
  first-part r is = sym (ap (λ (x : Converting). part_of x [] false) starts.is) ∙ is

  module _ (put : Put OutputState) (is : part_of first [] false ≡ Ok put) (x : Converting) (x_is : x ≡ with_out put.state first)
      (began now : Option (List ℕ)) (wrote : Appends began now put.bytes) where
    abbrev nothing : Fed AnyState
    nothing = feed (any starts.decoder) (any_start starts.decoder) []

    abbrev is_nothing : nothing ≡ record { state = any_start starts.decoder; items = [] }
    is_nothing = starts.none (any_start starts.decoder)

    first-job : first.job ≡ first_job
    first-job = ap (λ (y : Converting). y.job) starts.is

    begun : Holds first_job began [] x now
    begun = record {
      same = ap (λ (y : Converting). y.job) x_is ∙ first-job;
      state =
          ap (λ (y : Converting). y.state) x_is ∙ ap (λ (y : Converting). y.state) starts.is
          ∙ sym (ap (λ (f : Fed AnyState). f.state) is_nothing);
      on = ap (λ (f : Fed AnyState). stops (is_strict c.mode) f.items) is_nothing;
      bytes = put.bytes;
      put =
          ap (λ (f : Fed AnyState). encoded_items first_job f.items false) is_nothing ∙ first-part (Ok put) is
          ∙ sym (ap (λ (y : Converting). Ok (record { bytes = put.bytes; state = y.out })) x_is);
      wrote = wrote;
    }

    pub begins : Begins files c x began now
    begins = record {
      first = first;
      starts = starts;
      ready = subst IsReady (sym begun.same) (put, first-part (Ok put) is);
      holds = subst (λ (j : Job). Holds j began [] x now) (sym first-job) begun;
    }

  pub begins-not : Targets → Wholes → (f : EncodeFault) → IsOfTarget f → part_of first [] false ≡ Err f
      → encoded files c.to (encode_mode c.mode) [] ≡ Err f
  begins-not targets wholes f of_target is =
      sym (wholes files c.to (encode_mode c.mode) [])
      ∙ ap part_bytes (targets files c.to (encode_mode c.mode) Ascii Ascii [] [] false true f of_target (first-part (Err f) is))

  pub never-lacks : Before → (e : Unencodable) → part_of first [] false ≡ Err (encode.Unencodable e) → ⊥
  never-lacks before e is =
      let small = (before files c.to (encode_mode c.mode) Ascii [] false e (first-part (Err (encode.Unencodable e)) is)).0 in
      absurd (omega arith)

-- a write of nothing that failed before the first read
pub unwritten-first : (files : Files) (c : Conversion) (reads : Reads) (before after : Option (List ℕ))
    → BeginsNot (stream.Part fault.Write) files c before after → StopsAt fault.Write files c reads reads before after
unwritten-first files c reads before after h = record {
  at_end = false;
  so = record {
    read = [];
    received = sym (append-nil reads.received);
    consumes = none-read reads.left;
    holds = record {
      text = [];
      begins = λ more. (text_of files c more, refl);
      end = false;
      only = λ is. absurd (cc);
      put = h.0;
      is = h.1;
      bytes = h.2.0;
      left = h.2.1;
      cut = h.2.2;
      wrote = h.2.4;
    };
  };
  some = tt;
  up = record { end = tt; ends = sym (add-zero reads.ends); reads = omega arith; failures = sym (add-zero reads.failures) };
}

pub unbegun : (f : StreamFault) (files : Files) (c : Conversion) (reads : Reads) (before after : Option (List ℕ)) → BeginsNot f files c before after
    → Converts (Err f) files c reads reads before after
unbegun (stream.Refused why) files c reads before after h = (h.0, refl, h.1)
unbegun (stream.Part fault.Write) files c reads before after h = unwritten-first files c reads before after h
unbegun (stream.Part (fault.Malformed spot encoding)) files c reads before after h = absurd h
unbegun (stream.Part (fault.Unencodable spot d)) files c reads before after h = absurd h
unbegun (stream.Part fault.OutOfMemory) files c reads before after h = absurd h
unbegun stream.Read files c reads before after h = absurd h
unbegun stream.TooManyReads files c reads before after h = absurd h

pub started : (files : Files) (c : Conversion) (x : Converting) (before after : Option (List ℕ)) (b : Begins files c x before after)
    → Holds (record { decoder = b.starts.decoder; files = files; to = c.to; mode = c.mode }) before [] x after
started files c x before after b = subst (λ (j : Job). Holds j before [] x after) (ap (λ (y : Converting). y.job) b.starts.is) b.holds
