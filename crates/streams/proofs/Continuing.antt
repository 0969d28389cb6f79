-- A conversion goes on: what more bytes decide is written after what was written before.
use Rattle.std.proofs.Common.{◌≡◌, refl, sym, ap, ◌∙◌, ℕ, ◌+◌, ◌<◌, Bool, true, false, ◌&&◌, if◌then◌else◌, List, [], ◌∷◌, ◌++◌, length, map, take}
use Rattle.std.proofs.Common.{append_assoc, append-nil, subst, Option, Result, Ok, Err, OnOk, IfErr}
use Rattle.std.specs.{Prelude.⊤, Io.KnownBytes.Appends}
use Rattle.std.proofs.{KnownBytes.Appends-trans, Math.Seq.take-append-add}
use Rattle.decoder_core.specs.declared.item.Ended.{Ended}
use Rattle.decoder_core.specs.{Queue.Fed, Queue.feed, Queue.further, Queue.run, Text.item_code_points, declared.fault.Unencodable.Unencodable}
use Rattle.devices.specs.Devices.{AppendsPart}
use Rattle.enc_names.specs.declared.encoding.Encoding.{Encoding}
use Rattle.index_loader.specs.Files.{Files}
use Rattle.iso2022jp.specs.declared.output.OutputState.{OutputState, TheVariants.Ascii}
use Rattle.codec.specs.{Any.AnyDecoding, Any.any, Any.any_start, Texts.ended_text, declared.state.AnyState.AnyState}
use Rattle.encoders.specs.{Parts.encoded_part, Parts.in_parts, Steps.Put}
use Rattle.encoders.specs.declared.{fault.EncodeFault.EncodeFault, mode.EncodeMode.EncodeMode}
use Rattle.encoders.specs.declared.fault.EncodeFault.TheVariants.{Unencodable as unencodable}
use Rattle.streams.specs.Conversions.{Converting, Ends, Fails, Holds, Job, PutFails, PutsAll, StopsAtError, decided, encode_mode, encoded_items}
use Rattle.streams.specs.Conversions.{is_strict, part_of, whole}
use Rattle.streams.specs.declared.conversion.PartFault.{PartFault}
use Rattle.streams.specs.declared.conversion.PartFault.TheVariants as fault
use Rattle.streams.specs.Gathering.{is_error, kept, stops}

-- ---- items that are seen where more bytes follow

pub stops-further : (strict : Bool) (n : ℕ) (es : List Ended) → stops strict (further n es) ≡ stops strict es
stops-further strict n [] = refl
stops-further strict n (e ∷ es) = ap (λ (b : Bool). if strict && is_error e.item then true else b) (stops-further strict n es)

text-step : (b : Bool) (e : Ended) (n : ℕ) (xs ys : List Ended) → ended_text xs ≡ ended_text ys
    → ended_text (if b then [] else record { item = e.item; back = e.back + n } ∷ xs) ≡ ended_text (if b then [] else e ∷ ys)
text-step true e n xs ys same = refl
text-step false e n xs ys same = ap (λ (cs : List ℕ). item_code_points e.item ++ cs) same

pub text-further : (strict : Bool) (n : ℕ) (es : List Ended) → ended_text (kept strict (further n es)) ≡ ended_text (kept strict es)
text-further strict n [] = refl
text-further strict n (e ∷ es) =
    text-step (strict && is_error e.item) e n (kept strict (further n es)) (kept strict es) (text-further strict n es)

-- ---- items after others that no error stops

no-stop : (b s : Bool) → (if b then true else s) ≡ false → (b ≡ false) × (s ≡ false)
no-stop true s h = absurd (cc)
no-stop false s h = (refl, h)

stops-append : (strict : Bool) (es fs : List Ended) → stops strict es ≡ false → stops strict (es ++ fs) ≡ stops strict fs
stops-append strict [] fs on = refl
stops-append strict (e ∷ es) fs on =
    let here = no-stop (strict && is_error e.item) (stops strict es) on in
    rw here.0 (stops-append strict es fs here.1)

text-append : (strict : Bool) (es fs : List Ended) → stops strict es ≡ false
    → ended_text (kept strict (es ++ fs)) ≡ ended_text (kept strict es) ++ ended_text (kept strict fs)
text-append strict [] fs on = refl
text-append strict (e ∷ es) fs on =
    let here = no-stop (strict && is_error e.item) (stops strict es) on in
    rw (here.0, text-append strict es fs here.1, append_assoc) refl

-- ---- what is encoded

-- how parts of a text make up the whole
abbrev pub Joins : Type 0
Joins = (files : Files) (encoding : Encoding) (mode : EncodeMode) (s : OutputState) (cs rest : List ℕ) (end : Bool)
    → encoded_part files encoding mode s (cs ++ rest) end
    ≡ in_parts (length cs) (encoded_part files encoding mode s cs false) (λ t. encoded_part files encoding mode t rest end)

module _ (joins : Joins) (c : Converting) (es fs : List Ended) (n : ℕ) (bytes : List ℕ) (on : stops (is_strict c.job.mode) es ≡ false)
    (put : encoded_items c.job es false ≡ Ok (record { bytes = bytes; state = c.out })) where
  abbrev strict : Bool
  strict = is_strict c.job.mode

  abbrev all : List Ended
  all = further n es ++ fs

  abbrev before : List ℕ
  before = ended_text (kept strict es)

  abbrev more : List ℕ
  more = ended_text (kept strict fs)

  on-further : stops strict (further n es) ≡ false
  on-further = stops-further strict n es ∙ on

  pub stops-all : stops strict all ≡ stops strict fs
  stops-all = stops-append strict (further n es) fs on-further

  text-all : ended_text (kept strict all) ≡ before ++ more
  text-all = text-append strict (further n es) fs on-further ∙ ap (λ (cs : List ℕ). cs ++ more) (text-further strict n es)

  -- a front of the text that follows, encoded with all before it
  joined : (cs : List ℕ) (end : Bool) → encoded_part c.job.files c.job.to (encode_mode c.job.mode) Ascii (before ++ cs) end
      ≡ in_parts (length before) (Ok (record { bytes = bytes; state = c.out }))
      (λ t. encoded_part c.job.files c.job.to (encode_mode c.job.mode) t cs end)
  joined cs end =
      joins c.job.files c.job.to (encode_mode c.job.mode) Ascii before cs end
      ∙ ap (λ (r : Result (Put OutputState) EncodeFault).
      in_parts (length before) r (λ t. encoded_part c.job.files c.job.to (encode_mode c.job.mode) t cs end)) put

  front-put : (cs : List ℕ) (end : Bool) (p : Put OutputState) → part_of c cs end ≡ Ok p
      → encoded_part c.job.files c.job.to (encode_mode c.job.mode) Ascii (before ++ cs) end ≡ Ok (record { bytes = bytes ++ p.bytes; state = p.state })
  front-put cs end p is = joined cs end ∙ rw is refl

  pub all-put : (end : Bool) (p : Put OutputState) → part_of c more end ≡ Ok p
      → encoded_items c.job all end ≡ Ok (record { bytes = bytes ++ p.bytes; state = p.state })
  all-put end p is = rw text-all (front-put more end p is)

  all-fails : (end : Bool) (u : Unencodable) → part_of c more end ≡ Err (unencodable u)
      → encoded_items c.job all end ≡ Err (unencodable (record { index = length before + u.index; code_point = u.code_point }))
  all-fails end u is = rw text-all (joined more end ∙ rw is refl)

  module _ (began now later : Option (List ℕ)) (wrote : Appends began now bytes) where
    -- an error stops what follows, and all before it was written
    pub error-on : (p : Put OutputState) → stops strict fs ≡ true → part_of c more false ≡ Ok p → Appends now later p.bytes
        → StopsAtError c.job began all later
    error-on p stopped is more_wrote = record {
      stopped = stops-all ∙ stopped;
      put = record { bytes = bytes ++ p.bytes; state = p.state };
      is = all-put false p is;
      wrote = Appends-trans began now later bytes p.bytes wrote more_wrote;
    }

    front-all : (index : ℕ) → take (length before + index) (ended_text (kept strict all)) ≡ before ++ take index more
    front-all index = ap (take (length before + index)) text-all ∙ take-append-add before more index

    -- not all of what follows is written
    pub fails-on : (end at_end : Bool) (f : PartFault) → (end ≡ true → at_end ≡ true) → PutFails (part_of c) more end now later f
        → Fails f c.job began all at_end later
    fails-on end at_end (fault.Malformed spot encoding) only h = absurd h
    fails-on end at_end (fault.Unencodable spot d) only h = record {
      end = end;
      only = only;
      index = length before + h.0;
      is = all-fails end (record { index = h.0; code_point = d }) h.2;
      put = record { bytes = bytes ++ h.1.bytes; state = h.1.state };
      before = rw (front-all h.0) (front-put (take h.0 more) false h.1 h.3);
      wrote = Appends-trans began now later bytes h.1.bytes wrote h.4;
    }
    fails-on end at_end fault.Write only h = record {
      end = h.2;
      only = λ is. only (h.4 is);
      front = before ++ h.0;
      rest = h.1;
      parts = text-all ∙ ap (λ (cs : List ℕ). before ++ cs) h.5 ∙ sym (append_assoc before h.0 h.1);
      put = record { bytes = bytes ++ h.3.bytes; state = h.3.state };
      is = front-put h.0 h.2 h.3 h.6;
      bytes = bytes ++ h.7.0;
      left = h.7.1;
      cut = ap (λ (xs : List ℕ). bytes ++ xs) h.7.2 ∙ sym (append_assoc bytes h.7.0 h.7.1);
      wrote = Appends-trans began now later bytes h.7.0 wrote h.7.4;
    }
    fails-on end at_end fault.OutOfMemory only h = record {
      end = false;
      only = λ is. absurd (cc);
      front = before;
      rest = more;
      parts = text-all;
      put = record { bytes = bytes; state = c.out };
      is = put;
      bytes = bytes;
      left = [];
      cut = sym (append-nil bytes);
      wrote = subst (λ (w : Option (List ℕ)). Appends began w bytes) (sym h) wrote;
    }

-- ---- more bytes

-- what a decoder does over bytes in a row
abbrev pub FeedsParts : AnyDecoding → Type 0
FeedsParts d = (s : AnyState) (p q : List ℕ) → let first = feed (any d) s p in let second = feed (any d) first.state q in
    feed (any d) s (p ++ q) ≡ record { state = second.state; items = further (length q) first.items ++ second.items }

module _ (joins : Joins) (c : Converting) (feeds : FeedsParts c.job.decoder) (began now : Option (List ℕ)) (read bytes : List ℕ)
    (h : Holds c.job began read c now) where
  abbrev start : AnyState
  start = any_start c.job.decoder

  -- the state after the bytes, and the items that they decide
  abbrev pub after : Fed AnyState
  after = feed (any c.job.decoder) c.state bytes

  fed-more : feed (any c.job.decoder) start (read ++ bytes)
      ≡ record { state = after.state; items = further (length bytes) (decided c.job read) ++ after.items }
  fed-more =
      feeds start read bytes
      ∙ ap (λ (s : AnyState). let f = feed (any c.job.decoder) s bytes in
      record { state = f.state; items = further (length bytes) (decided c.job read) ++ f.items }) (sym h.state)

  items-more : decided c.job (read ++ bytes) ≡ further (length bytes) (decided c.job read) ++ after.items
  items-more = ap (λ (f : Fed AnyState). f.items) fed-more

  pub holds-more : (later : Option (List ℕ)) (p : Put OutputState) (new : Converting) → stops (is_strict c.job.mode) after.items ≡ false
      → part_of c (ended_text (kept (is_strict c.job.mode) after.items)) false ≡ Ok p → Appends now later p.bytes
      → new ≡ record { job = c.job; state = after.state; out = p.state } → Holds c.job began (read ++ bytes) new later
  holds-more later p new on is wrote new_is = record {
    same = ap (λ (x : Converting). x.job) new_is;
    state = ap (λ (x : Converting). x.state) new_is ∙ sym (ap (λ (f : Fed AnyState). f.state) fed-more);
    on = rw items-more (stops-all joins c (decided c.job read) after.items (length bytes) h.bytes h.on h.put ∙ on);
    bytes = h.bytes ++ p.bytes;
    put =
        rw (items-more, ap (λ (x : Converting). x.out) new_is)
        (all-put joins c (decided c.job read) after.items (length bytes) h.bytes h.on h.put false p is);
    wrote = Appends-trans began now later h.bytes p.bytes h.wrote wrote;
  }

  pub error-more : (later : Option (List ℕ)) (p : Put OutputState) → stops (is_strict c.job.mode) after.items ≡ true
      → part_of c (ended_text (kept (is_strict c.job.mode) after.items)) false ≡ Ok p → Appends now later p.bytes
      → StopsAtError c.job began (decided c.job (read ++ bytes)) later
  error-more later p stopped is wrote =
      rw items-more (error-on joins c (decided c.job read) after.items (length bytes) h.bytes h.on h.put began now later h.wrote p stopped is wrote)

  pub fails-more : (later : Option (List ℕ)) (f : PartFault)
      → PutFails (part_of c) (ended_text (kept (is_strict c.job.mode) after.items)) false now later f
      → Fails f c.job began (decided c.job (read ++ bytes)) false later
  fails-more later f fails =
      subst (λ (es : List Ended). Fails f c.job began es false later) (sym items-more)
      (fails-on joins c (decided c.job read) after.items (length bytes) h.bytes h.on h.put began now later h.wrote false false f (λ is. is) fails)

pub same-converting : (a b : Job) (s t : AnyState) (o p : OutputState) → a ≡ b → s ≡ t → o ≡ p
    → let x : Converting = record { job = a; state = s; out = o } in x ≡ record { job = b; state = t; out = p }
same-converting a b s t o p job state out = rw (job, state, out) refl

-- ---- the end

abbrev pub RunsParts : AnyDecoding → Type 0
RunsParts d = (s : AnyState) (p q : List ℕ) → let first = feed (any d) s p in
    run (any d) s (p ++ q) ≡ further (length q) first.items ++ run (any d) first.state q

module _ (joins : Joins) (c : Converting) (runs : RunsParts c.job.decoder) (began now : Option (List ℕ)) (read : List ℕ)
    (h : Holds c.job began read c now) where
  -- the items that the end gives
  abbrev pub last : List Ended
  last = run (any c.job.decoder) c.state []

  whole-is : whole c.job read ≡ further 0 (decided c.job read) ++ last
  whole-is =
      ap (run (any c.job.decoder) (any_start c.job.decoder)) (sym (append-nil read)) ∙ runs (any_start c.job.decoder) read []
      ∙ ap (λ (s : AnyState). further 0 (decided c.job read) ++ run (any c.job.decoder) s []) (sym h.state)

  pub ends-so : (later : Option (List ℕ)) (p : Put OutputState) → stops (is_strict c.job.mode) last ≡ false
      → part_of c (ended_text (kept (is_strict c.job.mode) last)) true ≡ Ok p → Appends now later p.bytes → Ends c.job began read later
  ends-so later p on is wrote = record {
    on = rw whole-is (stops-all joins c (decided c.job read) last 0 h.bytes h.on h.put ∙ on);
    put = record { bytes = h.bytes ++ p.bytes; state = p.state };
    is = rw whole-is (all-put joins c (decided c.job read) last 0 h.bytes h.on h.put true p is);
    wrote = Appends-trans began now later h.bytes p.bytes h.wrote wrote;
  }

  pub error-last : (later : Option (List ℕ)) (p : Put OutputState) → stops (is_strict c.job.mode) last ≡ true
      → part_of c (ended_text (kept (is_strict c.job.mode) last)) false ≡ Ok p → Appends now later p.bytes
      → StopsAtError c.job began (whole c.job read) later
  error-last later p stopped is wrote =
      rw whole-is (error-on joins c (decided c.job read) last 0 h.bytes h.on h.put began now later h.wrote p stopped is wrote)

  pub fails-last : (end : Bool) (later : Option (List ℕ)) (f : PartFault)
      → PutFails (part_of c) (ended_text (kept (is_strict c.job.mode) last)) end now later f
      → Fails f c.job began (whole c.job read) true later
  fails-last end later f fails =
      subst (λ (es : List Ended). Fails f c.job began es true later) (sym whole-is)
      (fails-on joins c (decided c.job read) last 0 h.bytes h.on h.put began now later h.wrote end true f (λ is. refl) fails)

  -- the text that the end gives, written or not
  pub last-put : (new : Converting) (later : Option (List ℕ)) (r : Result ⊤ PartFault) → stops (is_strict c.job.mode) last ≡ false
      → PutsAll (part_of c) (ended_text (kept (is_strict c.job.mode) last)) true c new now later r
      → OnOk r (Ends c.job began read later) × IfErr r (λ f. Fails f c.job began (whole c.job read) true later)
  last-put new later (Ok x) on put = (ends-so later put.0 on put.1 put.3, tt)
  last-put new later (Err f) on put = (tt, fails-last true later f put)
