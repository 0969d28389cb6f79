-- The documents of a desk, one after another.
use Rattle.std.proofs.Common.{◌≡◌, ℕ, zero, suc, ◌≤◌, ◌&&◌, Bool, true, false, T, List, [], ◌∷◌, length, map, slice_get, option_map, Option, Some}
use Rattle.std.proofs.Common.{String, string_bytes, sym, ap, ◌∙◌, refl, subst, arith}
use Rattle.std.proofs.lemmas.{Float.T_from_true, Iterator.Consumers.nth_from_yields_List, Iterator.Consumers.YieldsList-from_rest, Option.slice_get-map}
use Rattle.std.proofs.lemmas.{Map.Keys.sorted_head, Map.Keys.sorted_tail, Str.IsUtf8-string_bytes, Str.is_utf8-from_IsUtf8}
use Rattle.std.specs.{Iterator.SkipsThenYields, List.All, List.AllByRecursion, List.Sorted.IsStrictlySortedBy, Map.values_of, Map.keys_of}
use Rattle.std.specs.{Map.Iter.TakesFirst, Ordering.is_lt, Ordering.nat_cmp, Cmp.Lexicographic.nat_list_cmp_total, Cmp.Lexicographic.slice_cmp, Str.is_utf8}
use Rattle.std.specs.FinMap as finite
use Rattle.index_loader.specs.Files.{Files, has_files}
unfoldable use Rattle.piece_rope.specs.Edits.{open_fault}
use Rattle.piece_rope.specs.Edits.{document_limit}
use Rattle.desk.proofs.Prelude.{Less, Global, string_cmp, le-leb}
use Rattle.desk.specs.{Documents.Entry, Held.IsAdoptable, Held.held_at, OpenDocuments.IsAdmitted, OpenDocuments.entry_of, OpenDocuments.names}
use Rattle.desk.{specs.declared.open_document.OpenDocument.OpenDocument, proofs.Names.Entries}

-- ---- the names are in order

-- a name's bytes, and what is held there
abbrev as_held : String Global × OpenDocument → List ℕ × Entry
as_held e = (string_bytes e.0, entry_of e.1)

both : (a b : Bool) → T a → T b → T (a && b)
both true b p q = q
both false b p q = absurd p

below : (k : String Global) (es : Entries) → AllByRecursion (λ q. string_cmp k q ≡ Less) (keys_of es)
    → T (finite.Entries.below_all (slice_cmp nat_cmp) (string_bytes k) (map as_held es))
below k [] h = tt
below k (e ∷ es) h = both _ _ (T_from_true _ (ap is_lt h.0)) (below k es h.1)

in_order : (es : Entries) → IsStrictlySortedBy string_cmp (keys_of es) → T (finite.is_sorted (slice_cmp nat_cmp) (map as_held es))
in_order [] s = tt
in_order (e ∷ es) s = both _ _ (below e.0 es (sorted_head string_cmp e.0 (keys_of es) s)) (in_order es (sorted_tail string_cmp e.0 (keys_of es) s))

entries_named : (es : Entries) → IsStrictlySortedBy string_cmp (keys_of es) → finite.entries (names es) ≡ map as_held es
entries_named es s =
    let sorted = in_order es s in
    ap finite.entries (finite.same_map nat_list_cmp_total (finite.slice_cmp-IsAntisymmetric finite.nat_cmp-IsAntisymmetric) (names es)
    (finite.from_sorted (map as_held es)) (λ q.
    finite.get-from_entries nat_list_cmp_total (map as_held es) q ∙ sym (finite.get-from_sorted (slice_cmp nat_cmp) (map as_held es) q sorted)))
    ∙ finite.entries-from_sorted (slice_cmp nat_cmp) (map as_held es) sorted

-- ---- the document of a number

-- by what the iterator over the entries gave
module _ {A : Type 0} (shows : A → String Global × OpenDocument) (es s u : Entries) (n : ℕ) (start : s ≡ es) (r : Option A)
    (ran : SkipsThenYields (TakesFirst shows) s n r u) where
  pub nth_is : option_map shows r ≡ slice_get es n
  nth_is = nth_from_yields_List r u n ran (YieldsList-from_rest es start)

  pub held_is : IsStrictlySortedBy string_cmp (keys_of es) → option_map as_held (option_map shows r) ≡ held_at (names es) n
  held_is sorted = ap (option_map as_held) nth_is ∙ sym (ap (λ l. slice_get l n) (entries_named es sorted) ∙ slice_get-map as_held es n)

pub value_at : (P : OpenDocument → Type 0) (es : Entries) (n : ℕ) (e : String Global × OpenDocument) → All P (values_of es) → Some e ≡ slice_get es n → P e.1
value_at P [] n e all is = cc
value_at P (x ∷ es) zero e all is = let same : x ≡ e = let i = is in cc in subst (λ (y : String Global × OpenDocument). P y.1) same (all 0 x.1 (omega arith))
value_at P (x ∷ es) (suc n) e all is = value_at P es n e (λ k d small. all (suc k) d (omega (arith, small))) is

-- ---- it could be adopted

pub text_named : (k : String Global) → is_utf8 (string_bytes k) ≡ true
text_named k = is_utf8-from_IsUtf8 (string_bytes k) (IsUtf8-string_bytes k)

pub could_be_adopted : (indexes : Files) (k : OpenDocument) → IsAdmitted indexes k → length k.document.bytes ≤ document_limit → IsAdoptable indexes (entry_of k)
unfolding open_fault
could_be_adopted indexes k is few =
    let given : has_files indexes k.document.setting.given ≡ true = ap (λ s. has_files indexes s.given) is.setting ∙ is.given in
    record { admits = rw (given, le-leb (length k.document.bytes) document_limit few) refl; bytes = few; revision = is.revision }
