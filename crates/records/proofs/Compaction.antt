-- The documents of a desk, adopted one after another from the lines of a head.
use Rattle.std.proofs.Common.{◌≡◌, ℕ, ◌+◌, ◌-◌, ◌≤◌, ◌&&◌, Bool, true, false, T, cond, nat_lt, nat_le, List, [], ◌∷◌, ◌++◌, length, map, replicate, Option}
use Rattle.std.proofs.Common.{None, Some, Ok, Err, refl, sym, ap, ◌∙◌, subst, arith, append_assoc, append-nil, length-append, lt-ltb, ltb-true, le-leb}
use Rattle.std.{proofs.Common.leb-true, proofs.Common.Ordering, specs.Option.IsSome, specs.Option.option_map}
use Rattle.std.{specs.Cmp.Lexicographic.nat_list_cmp_total, specs.Cmp.Lexicographic.slice_cmp, proofs.lemmas.Bool.false_from_ne_true, specs.Str.is_utf8}
use Rattle.std.specs.{Ordering.eq_by_cmp, Ordering.is_eq, Ordering.is_lt, Ordering.nat_cmp, Ordering.ordering_reverse, Cmp.tied_itself, Cmp.Equal-is}
use Rattle.std.specs.{declared.cmp.Ordering.TheVariants.Less, declared.cmp.Ordering.TheVariants.Equal, declared.cmp.Ordering.TheVariants.Greater, List.concat}
use Rattle.desk.specs.{declared.fault.Fault.TheVariants.Forgotten, Desk.Office, Desk.has_place, Desk.max_documents, Documents.Entry, Documents.Names}
use Rattle.desk.specs.{Held.IsAdoptable, Open.adopted}
use Rattle.connections.specs.{Clients.NoneIsBegun, Clients.RepliesInOrder, Lines.complete, Lines.unfinished, Lines.has_end, CitedLaws.LinesCut}
use Rattle.connections.specs.Events.{connections}
use Rattle.gateway.specs.Head.{HeadLinesGoOn, Order, Comment, Part, Adoption, Heading}
use Rattle.gateway.specs.Head.{IsBadIn, LinesAreAlike, Obeys, ObeysAll, ObeysBy, RefusesBy, heading, order_on, parts_limit}
use Rattle.records.specs.Compaction.{AreAdoptable, AreParts, DocumentsAreHeads, EditsAreForgotten, HeadsLeadOn, IsOfDocument, IsOfDocuments, ObeyedAreGood}
use Rattle.records.specs.{Compaction.PlayedAreHeads, Compaction.adopt_words, Compaction.forgotten, Compaction.lined, Compaction.part_words, Names.IsNameLong}
use Rattle.records.proofs.{HeadLines.IsName, HeadLines.adopt_no_end, HeadLines.adopt_read, HeadLines.part_no_end, HeadLines.part_read, HeadFirst.all_once}
use Rattle.records.proofs.NameLengths.{none_is_named, plays_keep_names}
use Rattle.std.specs.FinMap as finite

-- ---- lines with their line feeds

abbrev NoEnds : List (List ℕ) → Type 0
NoEnds [] = Unit {0}
NoEnds (line ∷ lines) = (has_end line ≡ false) × NoEnds lines

ends-append : (a b : List (List ℕ)) → NoEnds a → NoEnds b → NoEnds (a ++ b)
ends-append [] b p q = q
ends-append (x ∷ a) b p q = (p.0, ends-append a b p.1 q)

pub lined-append : (a b : List (List ℕ)) → lined (a ++ b) ≡ lined a ++ lined b
lined-append [] b = refl
lined-append (x ∷ a) b = simp (lined-append a b, append_assoc)

lines_of_lined : LinesCut → (lines : List (List ℕ)) → NoEnds lines → complete [] (lined lines) ≡ lines
lines_of_lined cuts [] p = refl
lines_of_lined cuts (x ∷ lines) p = cuts.complete_at_end [] x (lined lines) p.0 ∙ ap (λ l. x ∷ l) (lines_of_lined cuts lines p.1)

ends_lined : LinesCut → (lines : List (List ℕ)) → unfinished [] (lined lines) ≡ []
ends_lined cuts [] = refl
ends_lined cuts (x ∷ lines) =
    rw (← append_assoc x (10 ∷ []) (lined lines), cuts.unfinished-append [] (x ++ 10 ∷ []) (lined lines), cuts.unfinished_at_end [] x) (ends_lined cuts lines)

-- ---- what lines of a head do

obeys-split : (h k : Heading) (a b : List (List ℕ)) → ObeysAll h (a ++ b) k → (m : Heading) × ObeysAll h a m × ObeysAll m b k
obeys-split h k [] b p = (h, refl, p)
obeys-split h k (x ∷ a) b p = let later = obeys-split p.0 k a b p.2 in (later.0, (p.0, p.1, later.1), later.2)

pub heads_lead_on : HeadsLeadOn
heads_lead_on old new other lines p q = all_once lines old new other p q

-- ---- a line that can be obeyed isn't bad

not_refused : (order : Option Order) (h k : Heading) → ObeysBy order h k → RefusesBy order h → ⊥
not_refused None h k p r = p
not_refused (Some Comment) h k p r = r
not_refused (Some (Part bytes)) h k p r = let never = sym p.0 ∙ r in cc
not_refused (Some (Adoption name setting rev)) h k p r = let never = sym p.0.step.1 ∙ r.1 in cc

first_good : (line last : List ℕ) (lines more : List (List ℕ)) (h k : Heading) → lines ++ line ∷ [] ≡ last ∷ more → line ≡ []
    → ObeysAll h lines k → IsBadIn last h → ⊥
first_good line last [] more h k e ends p bad = cc
first_good line last (x ∷ lines) more h k e ends p bad =
    let same : x ≡ last = cc in not_refused (order_on x) h p.0 p.1.1 (rw same bad.1)

pub obeyed_are_good : LinesCut → LinesAreAlike → ObeyedAreGood
obeyed_are_good cuts are fresh mid new front back place obeys whole on bad =
    let alike = are (unfinished [] front) place.line back (sym on.begun) in
    let parts = obeys-split (heading fresh []) new (complete [] front) (complete (unfinished [] front) back)
    (rw (cuts.complete-append [] front back) at obeys) in
    let here : parts.0 ≡ heading mid place.parts = heads_lead_on (heading fresh []) parts.0 (heading mid place.parts) (complete [] front) parts.1 on.obeys in
    let ends : unfinished place.line back ≡ [] = alike.ends (sym (cuts.unfinished-append [] front back) ∙ whole) in
    let found = bad [] tt in
    first_good (unfinished place.line back) found.0 (complete place.line back) found.1 (heading mid place.parts) new
    (rw (append-nil back) at found.2) ends (alike.obeys (heading mid place.parts) new (rw here at parts.2)) found.3

-- ---- names in order

abbrev Held : Type 0
Held = List ℕ × Entry

abbrev below : List ℕ → List Held → Bool
below x ds = finite.Entries.below_all (slice_cmp nat_cmp) x ds

abbrev in_order : List Held → Bool
in_order ds = finite.is_sorted (slice_cmp nat_cmp) ds

first : (a b : Bool) → T (a && b) → T a
first true b p = tt
first false b p = p

second : (a b : Bool) → T (a && b) → T b
second true b p = p
second false b p = absurd p

less : (o : Ordering) → T (is_lt o) → o ≡ Less
less Less p = refl
less Equal p = absurd p
less Greater p = absurd p

-- a name below another is not that one, either way round
apart : (x y : List ℕ) → T (is_lt (slice_cmp nat_cmp x y)) → (eq_by_cmp (slice_cmp nat_cmp) x y ≡ false) × (eq_by_cmp (slice_cmp nat_cmp) y x ≡ false)
apart x y p =
    let is = less (slice_cmp nat_cmp x y) p in
    let other = nat_list_cmp_total.antisymm y x ∙ ap ordering_reverse is in
    (ap is_eq is, ap is_eq other)

none_below : (x : List ℕ) (ds : List Held) → T (below x ds) → finite.find (slice_cmp nat_cmp) x ds ≡ None
none_below x [] p = refl
none_below x (d ∷ ds) p = rw (apart x d.0 (first _ _ p)).0 (none_below x ds (second _ _ p))

-- no document has one of these names
abbrev Free : Names → List Held → Type 0
Free m [] = Unit {0}
Free m (d ∷ ds) = (finite.get m d.0 ≡ None) × Free m ds

still_free : (m : Names) (name : List ℕ) (h : Entry) (ds : List Held) → T (below name ds) → Free m ds → Free (finite.insert m name h) ds
still_free m name h [] p f = tt
still_free m name h (d ∷ ds) p f =
    (finite.get-insert nat_list_cmp_total m name h d.0 ∙ rw (apart name d.0 (first _ _ p)).1 f.0, still_free m name h ds (second _ _ p) f.1)

all_free : (ds : List Held) → Free finite.empty ds
all_free [] = tt
all_free (d ∷ ds) = (finite.get-empty (slice_cmp nat_cmp) d.0, all_free ds)

-- ---- the parts of a document's bytes

ends_of_parts : (parts : List (List ℕ)) → NoEnds (map part_words parts)
ends_of_parts [] = tt
ends_of_parts (part ∷ parts) = (part_no_end part, ends_of_parts parts)

parts_obeyed : (o : Office) (done : List ℕ) (parts : List (List ℕ)) → AreParts parts → length done + length (concat parts) ≤ parts_limit
    → ObeysAll (heading o done) (map part_words parts) (heading o (done ++ concat parts))
parts_obeyed o done [] are few = ap (heading o) (append-nil done)
parts_obeyed o done (part ∷ parts) are few =
    let whole = length-append part (concat parts) in
    let room = le-leb (length done + length part) parts_limit (omega (arith, whole, few)) in
    let later = parts_obeyed o (done ++ part) parts are.3 (omega (arith, whole, length-append done part, few)) in
    (heading o (done ++ part), (refl, rw (part_read part are.2 are.0 are.1) (room, refl)), rw (append_assoc done part (concat parts)) at later)

-- ---- a document

abbrev with_document : Office → Held → Office
with_document o d = record { indexes = o.indexes; labels = o.labels; documents = finite.insert o.documents d.0 (forgotten d.1); turn = o.turn }

-- the lines of a text lead from one desk to another, and its last line is whole
record Leads (o p : Office) (text : List ℕ) : Type 0 where
  lines : List (List ℕ)
  is : text ≡ lined lines
  ends : NoEnds lines
  obeys : ObeysAll (heading o []) lines (heading p [])

-- a document with a name that a head can have
record IsGood (o : Office) (d : Held) : Type 0 where
  could : IsAdoptable o.indexes d.1
  text : is_utf8 d.0 ≡ true
  some : 1 ≤ length d.0
  few : length d.0 ≤ 64

abbrev AreGood : Office → List Held → Type 0
AreGood o [] = Unit {0}
AreGood o (d ∷ ds) = IsGood o d × AreGood o ds

-- whatever is found has such a name
abbrev AllNamed : List Held → Type 0
AllNamed ds = (name : List ℕ) → IsSome (finite.find (slice_cmp nat_cmp) name ds) → IsNameLong name

found_first : (d : Held) (ds : List Held) → IsSome (finite.find (slice_cmp nat_cmp) d.0 (d ∷ ds))
found_first d ds = subst (λ b. IsSome (cond b (Some d.1) (finite.find (slice_cmp nat_cmp) d.0 ds))) (sym (ap is_eq (tied_itself nat_list_cmp_total d.0))) refl

found_later : (b : Bool) (h : Entry) (o : Option Entry) → IsSome o → IsSome (cond b (Some h) o)
found_later true h o some = refl
found_later false h o some = some

are_good : (o : Office) (ds : List Held) → AreAdoptable o ds → AllNamed ds → AreGood o ds
are_good o [] a n = tt
are_good o (d ∷ ds) a n =
    let long = n d.0 (found_first d ds) in (
      record { could = a.0; text = a.1; some = long.0; few = long.1 },
      are_good o ds a.2 (λ name some. n name (found_later (eq_by_cmp (slice_cmp nat_cmp) name d.0) d.1 (finite.find (slice_cmp nat_cmp) name ds) some)),
    )

good_here : (o p : Office) (ds : List Held) → o.indexes ≡ p.indexes → AreGood o ds → AreGood p ds
good_here o p [] e g = tt
good_here o p (d ∷ ds) e g =
    (record { could = rw e at g.0.could; text = g.0.text; some = g.0.some; few = g.0.few }, good_here o p ds e g.1)

document_leads : HeadLinesGoOn → (o : Office) (d : Held) (text : List ℕ) → IsGood o d → IsOfDocument d text → has_place o.documents ≡ true
    → finite.get o.documents d.0 ≡ None → Leads o (with_document o d) text
document_leads go_on o d text good of place free =
    let parts = of.bytes.parts in
    let bytes : concat parts ≡ d.1.bytes = of.bytes.joined in
    let name : IsName d.0 = record { some = good.some; few = good.few; text = good.text; bytes = of.name } in
    let line : List ℕ = adopt_words d.0 d.1.setting d.1.revision in
    let small = good.could.revision in
    let room : 0 + length (concat parts) ≤ parts_limit = omega (arith, ap length bytes, good.could.bytes) in
    let obeyed = rw bytes at (parts_obeyed o [] parts of.bytes.are room) in
    let taken : adopted o.indexes (has_place o.documents) (finite.get o.documents d.0) d.1.setting d.1.bytes d.1.revision ≡ Ok (forgotten d.1) =
    rw (free, place) good.could.admits in
    let adopts : Obeys line (heading o d.1.bytes) (heading (with_document o d) []) = (
      refl,
      rw (adopt_read d.0 d.1.setting d.1.revision name small)
          (record { step = (forgotten d.1, taken, refl); indexes = refl; labels = refl; turn = refl }, refl),
    ) in record {
      lines = map part_words parts ++ line ∷ [];
      is = of.is ∙ ap (λ l. l ++ lined (line ∷ [])) of.bytes.is ∙ sym (lined-append (map part_words parts) (line ∷ []));
      ends = ends-append (map part_words parts) (line ∷ []) (ends_of_parts parts) (adopt_no_end d.0 d.1.setting d.1.revision small, tt);
      obeys = go_on (heading o []) (heading o d.1.bytes) (heading (with_document o d) []) (map part_words parts) (line ∷ []) obeyed
          (heading (with_document o d) [], adopts, refl);
    }

-- ---- all documents

abbrev with_all : Office → List Held → Office
with_all o [] = o
with_all o (d ∷ ds) = with_all (with_document o d) ds

leads-append : HeadLinesGoOn → (o p q : Office) (a b : List ℕ) → Leads o p a → Leads p q b → Leads o q (a ++ b)
leads-append go_on o p q a b x y = record {
  lines = x.lines ++ y.lines;
  is = ap (λ l. l ++ b) x.is ∙ ap (λ l. lined x.lines ++ l) y.is ∙ sym (lined-append x.lines y.lines);
  ends = ends-append x.lines y.lines x.ends y.ends;
  obeys = go_on (heading o []) (heading p []) (heading q []) x.lines y.lines x.obeys y.obeys;
}

one_more : (o : Office) (d : Held) → finite.get o.documents d.0 ≡ None → finite.len (with_document o d).documents ≡ finite.len o.documents + 1
one_more o d free = finite.len-insert nat_list_cmp_total o.documents d.0 (forgotten d.1) ∙ rw free refl

all_lead : HeadLinesGoOn → (o : Office) (ds : List Held) (text : List ℕ) → AreGood o ds → IsOfDocuments ds text → T (in_order ds) → Free o.documents ds
    → finite.len o.documents + length ds ≤ max_documents → Leads o (with_all o ds) text
all_lead go_on o [] text good of order free few = record { lines = []; is = of; ends = tt; obeys = refl }
all_lead go_on o (d ∷ ds) text good of order free few =
    let place : has_place o.documents ≡ true = lt-ltb (finite.len o.documents) max_documents (omega (arith, few)) in
    let now = document_leads go_on o d of.0 good.0 of.3 place free.0 in
    let later = all_lead go_on (with_document o d) ds of.1 (good_here o (with_document o d) ds refl good.1) of.4 (second _ _ order)
    (still_free o.documents d.0 (forgotten d.1) ds (first _ _ order) free.1) (omega (arith, one_more o d free.0, few)) in
    rw of.2 (leads-append go_on o (with_document o d) (with_all (with_document o d) ds) of.0 of.1 now later)

-- ---- what is at a name then

or_this : Option Entry → Option Entry → Option Entry
or_this None here = here
or_this (Some h) here = Some h

found_in : (o : Office) (d : Held) (ds : List Held) (q : List ℕ) (b : Bool) → eq_by_cmp (slice_cmp nat_cmp) q d.0 ≡ b → T (below d.0 ds)
    → or_this (option_map forgotten (finite.find (slice_cmp nat_cmp) q ds)) (cond b (Some (forgotten d.1)) (finite.get o.documents q))
    ≡ or_this (option_map forgotten (cond b (Some d.1) (finite.find (slice_cmp nat_cmp) q ds))) (finite.get o.documents q)
unfolding or_this
found_in o d ds q true e under =
    let same : d.0 ≡ q = sym (finite.slice_cmp-IsAntisymmetric finite.nat_cmp-IsAntisymmetric q d.0 ((Equal-is (slice_cmp nat_cmp q d.0)).0 e)) in
    let none = rw same at (none_below d.0 ds under) in rw none refl
found_in o d ds q false e under = refl

at_name : (o : Office) (ds : List Held) (q : List ℕ) → T (in_order ds)
    → finite.get (with_all o ds).documents q ≡ or_this (option_map forgotten (finite.find (slice_cmp nat_cmp) q ds)) (finite.get o.documents q)
unfolding or_this
at_name o [] q order = refl
at_name o (d ∷ ds) q order =
    at_name (with_document o d) ds q (second _ _ order)
    ∙ ap (or_this (option_map forgotten (finite.find (slice_cmp nat_cmp) q ds))) (finite.get-insert nat_list_cmp_total o.documents d.0 (forgotten d.1) q)
    ∙ found_in o d ds q (eq_by_cmp (slice_cmp nat_cmp) q d.0) refl (first _ _ order)

or_none : (x : Option Entry) → or_this x None ≡ x
unfolding or_this
or_none None = refl
or_none (Some h) = refl

files_stay : (o : Office) (ds : List Held) → (with_all o ds).indexes ≡ o.indexes
files_stay o [] = refl
files_stay o (d ∷ ds) = files_stay (with_document o d) ds

labels_stay : (o : Office) (ds : List Held) → (with_all o ds).labels ≡ o.labels
labels_stay o [] = refl
labels_stay o (d ∷ ds) = labels_stay (with_document o d) ds

pub documents_are_heads : LinesCut → HeadLinesGoOn → DocumentsAreHeads
documents_are_heads cuts go_on office fresh text could named of begins =
    let ds : List Held = finite.entries office.documents in
    let order : T (in_order ds) = finite.entries_sorted office.documents in
    let good = good_here office fresh ds (sym begins.indexes)
    (are_good office ds could.each (λ name some. named name (rw (finite.get-entries office.documents name) some))) in
    let none = ap finite.len begins.documents ∙ finite.len-empty _ _ in
    let leads = all_lead go_on fresh ds text good of order (rw begins.documents (all_free ds)) (omega (arith, none, could.few)) in record {
      new = with_all fresh ds;
      same = record {
        documents = λ q. rw (at_name fresh ds q order, begins.documents, finite.get-empty (slice_cmp nat_cmp) q, finite.get-entries office.documents q)
            (or_none _);
        indexes = files_stay fresh ds;
        labels = labels_stay fresh ds;
      };
      obeyed = rw (leads.is, lines_of_lined cuts leads.lines leads.ends) leads.obeys;
      whole = ap (unfinished []) leads.is ∙ ends_lined cuts leads.lines;
    }

pub played_are_heads : LinesCut → HeadLinesGoOn → RepliesInOrder → NoneIsBegun → PlayedAreHeads
played_are_heads cuts go_on order begin old new fresh lines was is text first plays could of begins =
    let named = plays_keep_names order old new (replicate connections None) lines was is (begin old first.lines) plays (rw first.documents none_is_named) in
    documents_are_heads cuts go_on new.office fresh text could named of begins

-- ---- the log is gone

pub edits_are_forgotten : EditsAreForgotten
edits_are_forgotten h rev earlier =
    let past : nat_lt h.revision rev ≡ false = false_from_ne_true (nat_lt h.revision rev) (λ is. absurd (omega (arith, earlier, ltb-true h.revision rev is))) in
    let some : nat_le (h.revision - rev) 0 ≡ false =
    false_from_ne_true (nat_le (h.revision - rev) 0) (λ is. absurd (omega (arith, earlier, leb-true (h.revision - rev) 0 is))) in
    let none : h.revision - 0 ≡ h.revision = omega arith in
    rw (past, some) (ap (λ n. Err (Forgotten n)) none)
