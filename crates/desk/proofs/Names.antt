-- Open documents, seen as a finite map from names.
use Rattle.std.proofs.Common.{◌≡◌, ℕ, ◌+◌, ◌<◌, ◌≤◌, Bool, false, cond, List, [], ◌∷◌, map, length, String, string_bytes, refl, sym, ap, ◌∙◌, subst, suc, arith}
use Rattle.std.proofs.Common.{if◌then◌else◌}
use Rattle.std.specs.{BTreeMap.is_at, Cmp.eq_by_cmp_equiv, List.AllByRecursion}
use Rattle.std.{specs.List.Sorted.IsStrictlySortedBy, proofs.lemmas.Map.length-set_value, proofs.lemmas.Map.lookup-none, proofs.lemmas.Map.NonePasses}
use Rattle.std.proofs.lemmas.Map.{Keys.sorted_head, Keys.sorted_tail, Text.is_eq-slice_cmp, Text.btree_map_updates_text}
use Rattle.desk.proofs.Prelude.{is_some, IfSome, Some, None, Option, option_map, bytes_eq, string_cmp, nat_cmp, is_eq, Less, Global, BTreeMap}
use Rattle.desk.proofs.Prelude.{IfSome-lookup_from_All, nat_list_cmp_total, slice_cmp, lookup, keys_of, eq_by_cmp, Files, AllOpened, entry_of, names}
use Rattle.desk.proofs.Prelude.{All-values-set_value, IsAdmitted, OpenDocument, set_value}
use Rattle.desk.specs.Desk.{max_documents}
use Rattle.std.specs.BTreeMap as tree
use Rattle.std.specs.FinMap as finite

abbrev pub Entries : Type 0
Entries = List (String Global × OpenDocument)

abbrev pub Map : Type 0
Map = BTreeMap (String Global) OpenDocument

-- a document is put at the name with these bytes, or none
abbrev pub Updates : List ℕ → Map → Map → Option OpenDocument → Type 0
Updates bs old new put = tree.UpdatesBy string_cmp (λ q. slice_cmp nat_cmp bs (string_bytes q)) old new put

-- whether a key's bytes are these
abbrev pub at_text : List ℕ → String Global → Bool
at_text bs k = is_at (λ q. slice_cmp nat_cmp bs (string_bytes q)) k

find-entries : (bs : List ℕ) (es : Entries) → finite.find (slice_cmp nat_cmp) bs (map (λ e. (string_bytes e.0, entry_of e.1)) es)
    ≡ option_map entry_of (lookup (at_text bs) es)
find-entries bs [] = refl
find-entries bs (e ∷ es) = grind (arith, find-entries bs es)

-- what is held at a name
pub get_named : (bs : List ℕ) (es : Entries) → finite.get (names es) bs ≡ option_map entry_of (lookup (at_text bs) es)
get_named bs es = finite.get-from_entries nat_list_cmp_total _ bs ∙ find-entries bs es

pub same_test : (bs cs : List ℕ) → eq_by_cmp (slice_cmp nat_cmp) cs bs ≡ bytes_eq bs cs
same_test bs cs = (eq_by_cmp_equiv nat_list_cmp_total).symm cs bs ∙ is_eq-slice_cmp bs cs

entry-cond : (b : Bool) (f o : Option OpenDocument) → option_map entry_of (cond b f o) ≡ cond b (option_map entry_of f) (option_map entry_of o)
entry-cond b f o = grind arith

-- what is held at each name where a document was put at one, or removed
held_by : (bs : List ℕ) (m n : Map) (put : Option OpenDocument) → Updates bs m n put → (q : List ℕ)
    → finite.get (names n.entries) q ≡ cond (eq_by_cmp (slice_cmp nat_cmp) q bs) (option_map entry_of put) (finite.get (names m.entries) q)
held_by bs m n put updates q =
    rw (get_named q n.entries, get_named q m.entries, btree_map_updates_text bs m n put updates q, same_test bs q)
    (entry-cond (bytes_eq bs q) put (lookup (at_text q) m.entries))

pub names_updated : (bs : List ℕ) (m n : Map) (k : OpenDocument) → Updates bs m n (Some k) → names n.entries ≡ finite.insert (names m.entries) bs (entry_of k)
names_updated bs m n k updates =
    finite.same_map nat_list_cmp_total (finite.slice_cmp-IsAntisymmetric finite.nat_cmp-IsAntisymmetric) _ _ (λ q.
    held_by bs m n (Some k) updates q ∙ sym (finite.get-insert nat_list_cmp_total (names m.entries) bs (entry_of k) q))

pub names_removed : (bs : List ℕ) (m n : Map) → Updates bs m n None → names n.entries ≡ finite.remove (names m.entries) bs
names_removed bs m n updates =
    finite.same_map nat_list_cmp_total (finite.slice_cmp-IsAntisymmetric finite.nat_cmp-IsAntisymmetric) _ _ (λ q.
    held_by bs m n None updates q ∙ sym (finite.get-remove nat_list_cmp_total (names m.entries) bs q))

-- whether something is held at a name
pub has_named : (bs : List ℕ) (es : Entries) → is_some (finite.get (names es) bs) ≡ is_some (lookup (at_text bs) es)
has_named bs es = rw (get_named bs es) (grind arith)

one_more : (b : Bool) (a n : ℕ) → b ≡ false → a ≡ n → cond b a (a + 1) ≡ suc n
one_more b a n e f = grind arith

none_at : (k : String Global) (es : Entries) → AllByRecursion (λ q. string_cmp k q ≡ Less) (keys_of es) → NonePasses (at_text (string_bytes k)) es
none_at k [] h = tt
none_at k (e ∷ es) h = (ap is_eq h.0, none_at k es h.1)

-- how many names there are, where the keys are in order
pub len_named : (es : Entries) → IsStrictlySortedBy string_cmp (keys_of es) → finite.len (names es) ≡ length es
len_named [] s = finite.len-empty _ _
len_named (e ∷ es) s =
    finite.len-insert nat_list_cmp_total (names es) (string_bytes e.0) (entry_of e.1)
    ∙ one_more _ _ _ (has_named (string_bytes e.0) es
    ∙ ap is_some (lookup-none _ es (none_at e.0 es (sorted_head string_cmp e.0 (keys_of es) s)))) (len_named es (sorted_tail string_cmp e.0 (keys_of es) s))

-- ---- one entry, found by its name

pub entry_none : (bs : List ℕ) (es : Entries) → None ≡ lookup (at_text bs) es → finite.get (names es) bs ≡ None
entry_none bs es none = get_named bs es ∙ ap (option_map entry_of) (sym none)

pub entry_some : (bs : List ℕ) (es : Entries) (k : OpenDocument) → Some k ≡ lookup (at_text bs) es → finite.get (names es) bs ≡ Some (entry_of k)
entry_some bs es k some = get_named bs es ∙ ap (option_map entry_of) (sym some)

-- what is found was opened with the same index files, and is in no edit
pub opened_found : (indexes : Files) (bs : List ℕ) (es : Entries) (k : OpenDocument) → AllOpened indexes es → Some k ≡ lookup (at_text bs) es
    → IsAdmitted indexes k
opened_found indexes bs es k all some =
    let P : OpenDocument → Type 0 = IsAdmitted indexes in
    subst (λ o. IfSome o P) (sym some) (IfSome-lookup_from_All P (at_text bs) es all)

-- ---- how many there are, and whether each could be adopted

pub edited_still : (indexes : Files) (es : Entries) (test : String Global → Bool) (k : OpenDocument) → AllOpened indexes es
    × (length es ≤ max_documents) → IsAdmitted indexes k → AllOpened indexes (set_value test es k) × (length (set_value test es k) ≤ max_documents)
edited_still indexes es test k all is =
    (All-values-set_value test (IsAdmitted indexes) es k all.0 is, let same = length-set_value test es k in omega (arith, same, all.1))

pub one_more_still : {A : Type 0} (r : Option A) (old new : Map) (n : ℕ)
    → length new.entries ≡ length old.entries + (if is_some r then 0 else 1) → length old.entries ≡ n → n < max_documents → length new.entries ≤ max_documents
one_more_still r old new n e count few = grind arith
