-- An edit that is given up, since what is decoded isn't what is wanted.
use Rattle.std.proofs.Common.{Result, Ok, IfOk}
use Rattle.piece_rope.proofs.Prelude.{◌≡◌, refl, sym, ap, ◌∙◌, ℕ, suc, ◌+◌, ◌*◌, ◌-◌, List, [], ◌∷◌, ◌++◌, take, drop, length, slice_get, Option, Some, None}
use Rattle.piece_rope.proofs.Prelude.{Err, append_assoc, append-nil, take-append-drop, Bool, false, add-one, IfSome, DocFault, Window, Awaits, Begins, GoesOn}
use Rattle.piece_rope.proofs.Prelude.{IsUnlike, Strays, left_of, encode_utf8_all, encodes-append, append_cancel_left, Entry, here_of, texts_of, bytes_of, Chain}
use Rattle.piece_rope.proofs.Prelude.{renew, renewed, state_after, AnyDecoding, AnyState, any, any_start, feed, run, further, Spans, exchanged, longest, places}
use Rattle.piece_rope.proofs.Prelude.{code_points, Files, Setting, decode, decoded_text, mark_length, Contents, outcome_of, shown_from, KeptAnswers}
use Rattle.piece_rope.proofs.Prelude.{named, ItemLaws, Laws, drop-next, take-next}
use Rattle.piece_rope.proofs.Chaining.{bytes-append, chain-append, chain-parts, renewed-bytes, renewed-next, state-append}
use Rattle.piece_rope.proofs.Making.{last_end, placed-text, places-append, shown-text}
use Rattle.piece_rope.specs.{declared.change.Change.Change, declared.fault.DocFault.TheVariants.NotKept, declared.fault.DocFault.TheVariants.OutOfMemory}
use Rattle.piece_rope.specs.{declared.ahead.Ahead.Ahead, Ahead.IsAnother, Ahead.IsStop, Ahead.IsStopBehind, Ahead.Stops, Ahead.changed_text}
use Rattle.piece_rope.proofs.{Answering.code_points-append, Counting.here-of, Preparing.edited-bytes, Texts.texts-append}

-- ---- what is wanted, beside one text after another

pub goes-nowhere : (a : Option Ahead) → GoesOn a [] a
goes-nowhere None = tt
goes-nowhere (Some a) = refl

pub goes-on : (a b c : Option Ahead) (xs ys : List ℕ) → GoesOn a xs b → GoesOn b ys c → GoesOn a (xs ++ ys) c
goes-on None None None xs ys one two = tt
goes-on (Some a) (Some b) (Some c) xs ys one two = cc (one, two, encodes-append xs ys, append_assoc (encode_utf8_all xs) (encode_utf8_all ys) (left_of c))
goes-on None (Some b) c xs ys one two = absurd one
goes-on (Some a) None c xs ys one two = absurd one
goes-on None None (Some c) xs ys one two = absurd two
goes-on (Some a) (Some b) None xs ys one two = absurd two

-- bytes that begin with others
cut-front : (whole rest more xs ys : List ℕ) → whole ≡ encode_utf8_all xs ++ rest → whole ≡ encode_utf8_all (xs ++ ys) ++ more
    → rest ≡ encode_utf8_all ys ++ more
cut-front whole rest more xs ys one two =
    append_cancel_left (encode_utf8_all xs) rest (encode_utf8_all ys ++ more)
    (cc (one, two, encodes-append xs ys, append_assoc (encode_utf8_all xs) (encode_utf8_all ys) more))

pub strays-on : (a b : Option Ahead) (xs ys : List ℕ) → GoesOn a xs b → Strays b ys → Strays a (xs ++ ys)
strays-on a None xs ys on strays = absurd strays
strays-on None (Some b) xs ys on strays = absurd on
strays-on (Some a) (Some b) xs ys on strays = λ more e. strays more (cut-front (left_of a) (left_of b) more xs ys on e)

pub strays-more : (a : Option Ahead) (xs ys : List ℕ) → Strays a xs → Strays a (xs ++ ys)
strays-more None xs ys strays = absurd strays
strays-more (Some a) xs ys strays =
    λ more e. strays (encode_utf8_all ys ++ more) (cc (e, encodes-append xs ys, append_assoc (encode_utf8_all xs) (encode_utf8_all ys) more))

pub unlike-on : (change : Option Change) (a : Option Ahead) (xs ys : List ℕ) → Awaits change xs a → Strays a ys → IsUnlike change (xs ++ ys)
unlike-on change None xs ys awaits strays = absurd strays
unlike-on None (Some a) xs ys awaits strays = absurd awaits
unlike-on (Some c) (Some a) xs ys awaits strays = λ more e. strays more (cut-front (encode_utf8_all (changed_text c)) (left_of a) more xs ys awaits e)

pub awaits-on : (change : Option Change) (a b : Option Ahead) (xs ys : List ℕ) → Awaits change xs a → GoesOn a ys b → Awaits change (xs ++ ys) b
awaits-on change a None xs ys awaits on = tt
awaits-on change None (Some b) xs ys awaits on = absurd on
awaits-on None (Some a) (Some b) xs ys awaits on = absurd awaits
awaits-on (Some c) (Some a) (Some b) xs ys awaits on =
    cc (awaits, on, encodes-append xs ys, append_assoc (encode_utf8_all xs) (encode_utf8_all ys) (left_of b))

-- what is wanted from a part on
pub awaits-from : (ps : List Entry) (c : Change) (a : Option Ahead) (first : ℕ) → c.pieces.now.items ≡ ps
    → IfSome a (λ (x : Ahead). encode_utf8_all (changed_text c) ≡ encode_utf8_all (texts_of (take first c.pieces.now.items)) ++ left_of x)
    → Awaits (Some c) (texts_of (take first ps)) a
awaits-from ps c None first same e = tt
awaits-from ps c (Some a) first same e = e ∙ ap (λ (xs : List Entry). encode_utf8_all (texts_of (take first xs)) ++ left_of a) same

-- a text that begins with others than the wanted one is another
pub another : (change : Option Change) (text xs more : List ℕ) → IsUnlike change xs → text ≡ xs ++ more → IsAnother change text
another None text xs more unlike e = absurd unlike
another (Some c) text xs more unlike e = λ same. unlike (encode_utf8_all more) (cc (same, e, encodes-append xs more))

-- ---- the pieces that were decoded

pub renewed-texts : (ps rs more : List Entry) (p r : Entry) → more ≡ rs ++ r ∷ [] → slice_get ps (length rs) ≡ Some p
    → texts_of (renewed (take (length more) ps) more) ≡ texts_of (renewed (take (length rs) ps) rs) ++ (here_of r).text
renewed-texts ps rs more p r more_is at =
    let front = renewed (take (length rs) ps) rs in
    cc (renewed-next ps rs more p r more_is at, texts-append front (renew p r ∷ []), append-nil (here_of r).text)

-- one more piece, and those after it
pub texts-more : (ps : List Entry) (n : ℕ) (p : Entry) → slice_get ps n ≡ Some p → texts_of (take (n + 1) ps) ≡ texts_of (take n ps) ++ (here_of p).text
texts-more ps n p at = cc (add-one n, take-next ps n p at, texts-append (take n ps) (p ∷ []), append-nil (here_of p).text)

pub texts-around : (ps : List Entry) (n : ℕ) (p : Entry) → slice_get ps n ≡ Some p → texts_of ps ≡ texts_of (take n ps)
    ++ ((here_of p).text ++ texts_of (drop (suc n) ps))
texts-around ps n p at = cc (take-append-drop n ps, texts-append (take n ps) (drop n ps), drop-next ps n p at)

module _ {d : AnyDecoding} (laws : Laws d) where
  -- the pieces after an edit, up to one that decodes to another text than the wanted one
  pub begins-next : (entry : AnyState) (ps rs more : List Entry) (a : Option Ahead) → Chain d entry (renewed (take (length more) ps) more)
      → Strays a (texts_of (renewed (take (length more) ps) more)) → Begins d entry (bytes_of ps) (Strays a)
  begins-next entry ps rs more a chain strays =
      let n = length more in
      record {
        pieces = renewed (take n ps) more;
        rest = bytes_of (drop n ps);
        chain = chain;
        bytes_are = cc (take-append-drop n ps, bytes-append (take n ps) (drop n ps), renewed-bytes (take n ps) more);
        says = strays;
      }

  module _ {ps : List Entry} {at to : ℕ} (ins : List ℕ) {middle : List ℕ} {w : Window} (spans : Spans ps at to (2 * longest) w)
      (middle_is : middle ≡ take (at - w.start) (drop w.start (bytes_of ps)) ++ (ins ++ take (w.end - to) (drop to (bytes_of ps))))
      {entry : AnyState} (fresh : List Entry) (old : Chain d (any_start d) ps) (entry_is : entry ≡ state_after d (any_start d) (take w.first ps))
      (own : bytes_of fresh ≡ middle) (chain : Chain d entry fresh) where
    abbrev made : List Entry
    made = take w.first ps ++ fresh

    made-chain : Chain d (any_start d) made
    made-chain =
        let before = (chain-parts laws (any_start d) (take w.first ps) (drop w.first ps) (rw (take-append-drop w.first ps) old)).0 in
        chain-append laws (any_start d) (take w.first ps) fresh before (rw entry_is at chain)

    made-bytes : exchanged (bytes_of ps) at to ins ≡ bytes_of made ++ bytes_of (drop w.last ps)
    made-bytes =
        let before = take w.first ps in
        let behind = drop w.last ps in
        let all = edited-bytes laws ins spans middle_is fresh [] own in
        let parts = append_assoc (bytes_of before) (bytes_of fresh) (bytes_of behind) in
        cc (all, bytes-append before (fresh ++ behind), bytes-append fresh behind, bytes-append before fresh, parts)

    pub begins-made : (Says : List ℕ → Type 0) → Says (texts_of made) → Begins d (any_start d) (exchanged (bytes_of ps) at to ins) Says
    begins-made Says says = record { pieces = made; rest = bytes_of (drop w.last ps); chain = made-chain; bytes_are = made-bytes; says = says }

    pub begins-behind : {behind : AnyState} (change : Option Change) (a : Option Ahead) → behind ≡ (feed (any d) entry middle).state
        → Begins d behind (bytes_of (drop w.last ps)) (Strays a)
        → Awaits change (texts_of made) a → Begins d (any_start d) (exchanged (bytes_of ps) at to ins) (IsUnlike change)
    begins-behind {behind} change a behind_is later awaits =
        let here : behind ≡ state_after d (any_start d) made = cc (behind_is, own, entry_is, state-append laws (any_start d) (take w.first ps) fresh) in
        record {
          pieces = made ++ later.pieces;
          rest = later.rest;
          chain = chain-append laws (any_start d) made later.pieces made-chain (rw here at later.chain);
          bytes_are = cc (made-bytes, later.bytes_are, bytes-append made later.pieces, append_assoc (bytes_of made) (bytes_of later.pieces) later.rest);
          says = rw (texts-append made later.pieces) (unlike-on change a (texts_of made) (texts_of later.pieces) awaits later.says);
        }

-- ---- their text is that of the bytes

module _ {d : AnyDecoding} (laws : Laws d) (items : ItemLaws d) where
  chain-text : (total from : ℕ) (s : AnyState) (ps : List Entry) (rest : List ℕ) → Chain d s ps
      → (more : List ℕ) × (code_points (places total from (run (any d) s (bytes_of ps ++ rest))) ≡ texts_of ps ++ more)
  unfolding outcome_of
  chain-text total from s [] rest chain = (code_points (places total from (run (any d) s rest)), refl)
  chain-text total from s (p ∷ ps) rest chain =
      let q = p.piece.bytes in
      let behind = bytes_of ps ++ rest in
      let f = feed (any d) s q in
      let es = further (length behind) f.items in
      let own-here = here-of p chain.0 chain.1 in
      let text : (here_of p).text ≡ code_points (places total from es) =
      ap (λ (c : Contents). c.text) own-here ∙ shown-text (length q) (shown_from (any d) 0 s q) f.items (items.shown s q)
      ∙ sym (placed-text total from (length behind) f.items) in
      let later = chain-text total (last_end total from es) f.state ps rest chain.2 in
      let more = places total (last_end total from es) (run (any d) f.state behind) in
      let two = code_points-append (places total from es) more in
      let all : code_points (places total from (run (any d) s ((q ++ bytes_of ps) ++ rest))) ≡ code_points (places total from es) ++ code_points more =
      cc (append_assoc q (bytes_of ps) rest, items.runs s q behind, places-append total from es (run (any d) f.state behind), two) in
      (later.0, cc (all, text, later.1, append_assoc (here_of p).text (texts_of ps) later.0))

  -- a document of these bytes has another text than the wanted one
  pub begins-another : (files : Files) (setting : Setting) (bytes : List ℕ) (change : Option Change)
      → places (length bytes) (mark_length setting bytes) (run (any d) (any_start d) bytes) ≡ (decode files setting bytes).items
      → Begins d (any_start d) bytes (IsUnlike change) → IsAnother change (decoded_text files setting bytes)
  unfolding decoded_text
  begins-another files setting bytes change scratch begins =
      let whole = chain-text (length bytes) (mark_length setting bytes) (any_start d) begins.pieces begins.rest begins.chain in
      another change (code_points (decode files setting bytes).items) (texts_of begins.pieces) whole.0 begins.says
      (ap code_points (sym scratch)
      ∙ ap (λ (bs : List ℕ). code_points (places (length bytes) (mark_length setting bytes) (run (any d) (any_start d) bs))) begins.bytes_are ∙ whole.1)

-- ---- answers

-- what holds of an answer holds of another reading of it
pub ok-then : {A : Type 0} {E : Type 0} (r : Result A E) {P Q : A → Type 0} → IfOk r P → ((x : A) → P x → Q x) → IfOk r Q
ok-then (Ok x) p f = f x p
ok-then (Err e) p f = tt

pub stops-if : (P Q : Type 0) (e : DocFault) → (P → Q) → IsStop P e → IsStop Q e
stops-if P Q NotKept f p = f p
stops-if P Q OutOfMemory f p = tt
stops-if P Q e f p = absurd p

pub stops-when : {A : Type 0} (P Q : Type 0) (r : Result A DocFault) → (P → Q) → Stops P r → Stops Q r
stops-when P Q (Ok x) f p = tt
stops-when P Q (Err e) f p = stops-if P Q e f p

pub stops-behind : (fault : Option DocFault) (P Q : Type 0) (e : DocFault) → fault ≡ None → (P → Q) → IsStop P e → IsStopBehind fault Q e
stops-behind fault P Q NotKept none f p = (none, f p)
stops-behind fault P Q OutOfMemory none f p = none
stops-behind fault P Q e none f p = absurd p

-- a cause that comes before, and one if no text is wanted
pub faults-behind : (fault : Option DocFault) (reason : Type 0) (e : DocFault) → fault ≡ named e → (fault ≡ Some NotKept → ⊥) → IsStopBehind fault reason e
faults-behind fault reason NotKept is other = absurd (other is)
faults-behind fault reason e is other = is

pub faults-alone : (fault : Option DocFault) (reason : Type 0) (e : DocFault) → (reason → ⊥) → IsStopBehind fault reason e → fault ≡ named e
faults-alone fault reason NotKept none stops = absurd (none stops.1)
faults-alone fault reason e none stops = stops

-- one that is refused so doesn't keep the text
pub kept-stops : (A : Type 0) (fault only : Option DocFault) (reason : Type 0) (kept : Bool) (e : DocFault) → fault ≡ only → (reason → kept ≡ false)
    → IsStopBehind only reason e → KeptAnswers {A = A} fault kept (Err e)
kept-stops A fault only reason kept NotKept same f stops = (same ∙ stops.0, f stops.1)
kept-stops A fault only reason kept e same f stops = same ∙ stops
