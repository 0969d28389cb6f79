-- What the items that bytes decide say of all that may follow these bytes.
use Rattle.std.proofs.Common.{◌≡◌, refl, sym, ap, ◌∙◌, ℕ, ◌+◌, ◌-◌, Bool, true, false, ◌&&◌, if◌then◌else◌, List, [], ◌∷◌, ◌++◌, length, append_assoc}
use Rattle.std.proofs.Common.{add-zero, append-nil, Option, Some, None, is_some}
use Rattle.index_loader.specs.Files.{Files}
use Rattle.decoder_core.specs.declared.{placed.Placed.Placed, item.Item.Item, item.Item.TheVariants.One, item.Item.TheVariants.Two}
use Rattle.decoder_core.specs.declared.{item.Item.TheVariants.Error, item.Ended.Ended}
use Rattle.decoder_core.specs.{Placed.places, Queue.feed, Queue.further, Queue.run, Text.code_points, Text.item_code_points}
use Rattle.codec.specs.{Any.AnyDecoding, Any.any, Any.any_start, Decode.fatal_of, Mark.mark_length, Texts.ended_text}
use Rattle.codec.specs.{declared.state.AnyState.AnyState}
use Rattle.streams.specs.declared.conversion.{Conversion.Conversion, ConvertMode.ConvertMode}
use Rattle.streams.specs.declared.conversion.ConvertMode.TheVariants.{Fatal, Replacement, Html}
use Rattle.streams.specs.Conversions.{Job, decided, is_strict, whole}
use Rattle.streams.specs.Gathering.{is_error, kept, stops}
use Rattle.streams.specs.Streams.{Whatever, before_error, items_of, text_of}
use Rattle.streams.proofs.Continuing.{stops-further, text-further}

-- ---- items with and without their places

pub places-text : (total from : ℕ) (es : List Ended) → code_points (places total from es) ≡ ended_text es
places-text total from [] = refl
places-text total from (e ∷ es) = ap (λ (cs : List ℕ). item_code_points e.item ++ cs) (places-text total (total - e.back) es)

before-step : (item : Item) (back from to : ℕ) (ps : List Placed) (es : List Ended) → code_points (before_error ps) ≡ ended_text (kept true es)
    → code_points (before_error (record { item = item; from = from; to = to } ∷ ps)) ≡ ended_text (kept true (record { item = item; back = back } ∷ es))
before-step (One c) back from to ps es same = ap (λ (cs : List ℕ). item_code_points (One c) ++ cs) same
before-step (Two a b) back from to ps es same = ap (λ (cs : List ℕ). item_code_points (Two a b) ++ cs) same
before-step Error back from to ps es same = refl

places-before : (total from : ℕ) (es : List Ended) → code_points (before_error (places total from es)) ≡ ended_text (kept true es)
places-before total from [] = refl
places-before total from (e ∷ es) =
    before-step e.item e.back from (total - e.back) (places total (total - e.back) es) es (places-before total (total - e.back) es)

fatal-step : (item : Item) (back from to : ℕ) (ps : List Placed) (es : List Ended) → is_some (fatal_of ps) ≡ stops true es
    → is_some (fatal_of (record { item = item; from = from; to = to } ∷ ps)) ≡ stops true (record { item = item; back = back } ∷ es)
fatal-step (One c) back from to ps es same = same
fatal-step (Two a b) back from to ps es same = same
fatal-step Error back from to ps es same = refl

places-fatal : (total from : ℕ) (es : List Ended) → is_some (fatal_of (places total from es)) ≡ stops true es
places-fatal total from [] = refl
places-fatal total from (e ∷ es) =
    fatal-step e.item e.back from (total - e.back) (places total (total - e.back) es) es (places-fatal total (total - e.back) es)

-- ---- items that are kept

front-step : (b : Bool) (e : Ended) (es ks : List Ended) (rest : List ℕ) → ended_text es ≡ ended_text ks ++ rest
    → (more : List ℕ) × (ended_text (e ∷ es) ≡ ended_text (if b then [] else e ∷ ks) ++ more)
front-step true e es ks rest is = (ended_text (e ∷ es), refl)
front-step false e es ks rest is =
    (rest, ap (λ (cs : List ℕ). item_code_points e.item ++ cs) is ∙ sym (append_assoc (item_code_points e.item) (ended_text ks) rest))

-- the text of those that are kept is a front of the text of all
pub kept-front : (strict : Bool) (es : List Ended) → (rest : List ℕ) × (ended_text es ≡ ended_text (kept strict es) ++ rest)
kept-front strict [] = ([], refl)
kept-front strict (e ∷ es) =
    let front = kept-front strict es in
    front-step (strict && is_error e.item) e es (kept strict es) front.0 front.1

all-step : (b s : Bool) (e : Ended) (es ks : List Ended) → (if b then true else s) ≡ false → (s ≡ false → ks ≡ es)
    → (if b then [] else e ∷ ks) ≡ e ∷ es
all-step true s e es ks on more = absurd (cc)
all-step false s e es ks on more = ap (λ (xs : List Ended). e ∷ xs) (more on)

-- where no error stops them, all are kept
pub kept-all : (strict : Bool) (es : List Ended) → stops strict es ≡ false → kept strict es ≡ es
kept-all strict [] on = refl
kept-all strict (e ∷ es) on = all-step (strict && is_error e.item) (stops strict es) e es (kept strict es) on (kept-all strict es)

pub never-stops : (es : List Ended) → stops false es ≡ false
never-stops [] = refl
never-stops (e ∷ es) = never-stops es

pub fatal-mode : (mode : ConvertMode) (es : List Ended) → stops (is_strict mode) es ≡ true → mode ≡ Fatal
fatal-mode Fatal es stopped = refl
fatal-mode Replacement es stopped = let never = never-stops es in absurd (cc)
fatal-mode Html es stopped = let never = never-stops es in absurd (cc)

stop-step : (b s t : Bool) → (if b then true else s) ≡ true → (s ≡ true → t ≡ true) → (if b then true else t) ≡ true
stop-step true s t stopped more = refl
stop-step false s t stopped more = more stopped

-- an error that stops items stops them whatever follows
stops-before : (strict : Bool) (es fs : List Ended) → stops strict es ≡ true → stops strict (es ++ fs) ≡ true
stops-before strict [] fs stopped = absurd (cc)
stops-before strict (e ∷ es) fs stopped =
    stop-step (strict && is_error e.item) (stops strict es) (stops strict (es ++ fs)) stopped (stops-before strict es fs)

kept-step : (b s : Bool) (e : Ended) (es fs : List Ended) → (if b then true else s) ≡ true → (s ≡ true → es ≡ fs)
    → (if b then [] else e ∷ es) ≡ (if b then [] else e ∷ fs)
kept-step true s e es fs stopped more = refl
kept-step false s e es fs stopped more = ap (λ (xs : List Ended). e ∷ xs) (more stopped)

kept-before : (strict : Bool) (es fs : List Ended) → stops strict es ≡ true → kept strict (es ++ fs) ≡ kept strict es
kept-before strict [] fs stopped = absurd (cc)
kept-before strict (e ∷ es) fs stopped =
    kept-step (strict && is_error e.item) (stops strict es) e (kept strict (es ++ fs)) (kept strict es) stopped (kept-before strict es fs)

all-kept : (es : List Ended) → kept false es ≡ es
all-kept es = kept-all false es (never-stops es)

pub text-append : (es fs : List Ended) → ended_text (es ++ fs) ≡ ended_text es ++ ended_text fs
text-append [] fs = refl
text-append (e ∷ es) fs =
    ap (λ (cs : List ℕ). item_code_points e.item ++ cs) (text-append es fs) ∙ sym (append_assoc (item_code_points e.item) (ended_text es) (ended_text fs))

pub text-moved : (n : ℕ) (es : List Ended) → ended_text (further n es) ≡ ended_text es
text-moved n es = sym (ap ended_text (all-kept (further n es))) ∙ text-further false n es ∙ ap ended_text (all-kept es)

pub further-zero : (es : List Ended) → further 0 es ≡ es
further-zero [] = refl
further-zero (e ∷ es) = rw (add-zero e.back, further-zero es) refl

-- ---- what bytes decide, whatever follows

-- these items are a front of those, seen from where more bytes follow
pub record Ahead (es all : List Ended) : Type 0 where
  pub count : ℕ
  pub more : List Ended
  pub is : all ≡ further count es ++ more

module _ {es all : List Ended} (a : Ahead es all) where
  pub ahead-text : ended_text all ≡ ended_text es ++ ended_text a.more
  ahead-text = ap ended_text a.is ∙ text-append (further a.count es) a.more ∙ ap (λ (cs : List ℕ). cs ++ ended_text a.more) (text-moved a.count es)

  pub ahead-stops : (strict : Bool) → stops strict es ≡ true → stops strict all ≡ true
  ahead-stops strict stopped =
      ap (stops strict) a.is ∙ stops-before strict (further a.count es) a.more (stops-further strict a.count es ∙ stopped)

  pub ahead-kept : (strict : Bool) → stops strict es ≡ true → ended_text (kept strict all) ≡ ended_text (kept strict es)
  ahead-kept strict stopped =
      ap (λ (xs : List Ended). ended_text (kept strict xs)) a.is
      ∙ ap ended_text (kept-before strict (further a.count es) a.more (stops-further strict a.count es ∙ stopped)) ∙ text-further strict a.count es

-- the items that were decided where the end was reached, and where it wasn't
abbrev pub items_at : Bool → Job → List ℕ → List Ended
items_at true job read = whole job read
items_at false job read = decided job read

pub whatever : (at_end : Bool) {P Q : List ℕ → Type 0} → ((more : List ℕ) → P more → Q more) → Whatever at_end P → Whatever at_end Q
whatever true f p = f [] p
whatever false f p = λ more. f more (p more)

abbrev pub Decodes : Files → Conversion → AnyDecoding → Type 0
Decodes files c d = (bytes : List ℕ) → places (length bytes) (mark_length c.from bytes) (run (any d) (any_start d) bytes) ≡ items_of files c bytes

abbrev pub Runs : AnyDecoding → Type 0
Runs d = (s : AnyState) (p q : List ℕ) → let first = feed (any d) s p in
    run (any d) s (p ++ q) ≡ further (length q) first.items ++ run (any d) first.state q

module _ (files : Files) (c : Conversion) (job : Job) (decodes : Decodes files c job.decoder) (runs : Runs job.decoder) where
  pub text-is : (bytes : List ℕ) → text_of files c bytes ≡ ended_text (whole job bytes)
  text-is bytes = ap code_points (sym (decodes bytes)) ∙ places-text (length bytes) (mark_length c.from bytes) (whole job bytes)

  pub before-is : (bytes : List ℕ) → code_points (before_error (items_of files c bytes)) ≡ ended_text (kept true (whole job bytes))
  before-is bytes =
      ap (λ (ps : List Placed). code_points (before_error ps)) (sym (decodes bytes))
      ∙ places-before (length bytes) (mark_length c.from bytes) (whole job bytes)

  pub fatal-is : (bytes : List ℕ) → is_some (fatal_of (items_of files c bytes)) ≡ stops true (whole job bytes)
  fatal-is bytes =
      ap (λ (ps : List Placed). is_some (fatal_of ps)) (sym (decodes bytes)) ∙ places-fatal (length bytes) (mark_length c.from bytes) (whole job bytes)

  pub ahead : (at_end : Bool) (read : List ℕ) → Whatever at_end (λ more. Ahead (items_at at_end job read) (whole job (read ++ more)))
  ahead true read = record {
    count = 0;
    more = [];
    is = ap (whole job) (append-nil read) ∙ sym (append-nil (whole job read)) ∙ ap (λ (xs : List Ended). xs ++ []) (sym (further-zero (whole job read)));
  }
  ahead false read = λ more. record {
    count = length more;
    more = run (any job.decoder) (feed (any job.decoder) (any_start job.decoder) read).state more;
    is = runs (any_start job.decoder) read more;
  }
