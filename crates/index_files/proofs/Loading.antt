-- Index files that are loaded for encodings that need them.
use denote.Ref.{Bor}
use Rattle.std.proofs.Common.{◌≡◌, ◌≢◌, ◌<◌, ℕ, zero, suc, List, [], ◌∷◌, Bool, true, false, ◌||◌, Option, Some, None, get_or, set, length}
use Rattle.std.proofs.Common.{refl, sym, ap, subst, ◌∙◌, ⊎_elim, arith, rules}
use Rattle.std.specs.{List.list_any, Prelude.slice_index_or, Prelude.slice_get, Prelude.map, Prelude.option_and_then, Prelude.replicate}
use Rattle.std.specs.{Option.option_map_or}
use Rattle.std.proofs.lemmas.{List.Quantifiers.position-Some, List.get_or-set_other}
use Rattle.enc_names.specs.{declared.encoding.Encoding.Encoding, declared.encoding.Encoding.TheVariants.Iso8859_8I}
use Rattle.index_loader.specs.declared.kind.IndexKind.{IndexKind, TheVariants.Gb18030, TheVariants.Jis0208, TheVariants.Pair, TheVariants.SingleByte}
use Rattle.index_loader.specs.declared.kind.PairEncoding.TheVariants.{ShiftJis}
use Rattle.index_loader.specs.{Families.needed, Files.Files, Files.no_files, Files.pairs_of, Files.with_index, Index.Loaded, Kinds.family_of, Kinds.home_of}
use Rattle.index_loader.specs.{Kinds.kinds, Kinds.same_kind, Kinds.slot_of, Pairs.Pairs}
use Rattle.index_files.specs.declared.fault.FolderFault.{FolderFault, TheVariants.CannotRead, TheVariants.Index, TheVariants.OutOfMemory}
use Rattle.index_files.specs.Needed.{HasOnly, IsIndexFault, IsPut, Names, is_needed, needs}

one_kind : (a b : IndexKind) → same_kind a b ≡ true → a ≡ b
one_kind a b same = Prim.search rules

-- a kind's home is at home
home-home : (kind : IndexKind) → home_of (home_of kind) ≡ home_of kind
home-home (SingleByte Iso8859_8I) = refl
home-home (Pair ShiftJis) = refl
home-home kind = refl

-- two kinds at one place have one home
one-home : (a b : IndexKind) (slot : ℕ) → slot_of a ≡ Some slot → slot_of b ≡ Some slot → home_of a ≡ home_of b
unfolding slot_of
one-home a b slot first second =
    one_kind (home_of a) (get_or kinds slot Jis0208) (position-Some (same_kind (home_of a)) kinds slot Jis0208 first).1
    ∙ sym (one_kind (home_of b) (get_or kinds slot Jis0208) (position-Some (same_kind (home_of b)) kinds slot Jis0208 second).1)

-- what is needed is at home

first-at-home : (kind k : IndexKind) (b rest : Bool) → same_kind (home_of k) kind ≡ b → (rest ≡ true → home_of kind ≡ kind) → (b || rest) ≡ true
    → home_of kind ≡ kind
first-at-home kind k true rest same later is = subst (λ x. home_of x ≡ x) (one_kind (home_of k) kind same) (home-home k)
first-at-home kind k false rest same later is = later is

one-at-home : (kind : IndexKind) (ks : List IndexKind) → list_any (λ k. same_kind (home_of k) kind) ks ≡ true → home_of kind ≡ kind
one-at-home kind [] is = cc
one-at-home kind (k ∷ ks) is =
    first-at-home kind k (same_kind (home_of k) kind) (list_any (λ k. same_kind (home_of k) kind) ks) refl (one-at-home kind ks) is

either : (kind : IndexKind) (a b : Bool) → (a ≡ true → home_of kind ≡ kind) → (b ≡ true → home_of kind ≡ kind) → (a || b) ≡ true → home_of kind ≡ kind
either kind true b first later is = first refl
either kind false b first later is = later is

needed-at-home : (kind : IndexKind) (es : List Encoding) → is_needed es kind ≡ true → home_of kind ≡ kind
needed-at-home kind [] is = cc
needed-at-home kind (e ∷ es) is =
    either kind (needs e kind) (is_needed es kind) (one-at-home kind (needed (family_of e))) (needed-at-home kind es) is

-- ---- a file that is put

-- at another place nothing changes
other-place : (files : Files) (pairs : Pairs) (a b : Option ℕ) → ((slot : ℕ) → a ≡ Some slot → b ≡ Some slot → ⊥)
    → option_and_then (λ slot. slice_index_or files.slots slot None) b ≡ None
    → option_and_then (λ slot. slice_index_or
    (option_map_or (λ s. record { slots = set files.slots s (Some pairs); exceptions = files.exceptions }) a files).slots slot None) b ≡ None
other-place files pairs a None apart was = refl
other-place files pairs None (Some t) apart was = was
other-place files pairs (Some s) (Some t) apart was = get_or-set_other files.slots s t (Some pairs) None (λ is. apart t (ap Some (sym is)) refl) ∙ was

exceptions-kept : (files : Files) (index : Loaded) (o : Option ℕ)
    → (option_map_or (λ s. record { slots = set files.slots s (Some index.pairs); exceptions = files.exceptions }) o files).exceptions ≡ files.exceptions
exceptions-kept files index None = refl
exceptions-kept files index (Some s) = refl

other-kind : (files : Files) (index : Loaded) (kind : IndexKind) → home_of index.kind ≢ home_of kind → pairs_of files kind ≡ None
    → pairs_of (with_index files index) kind ≡ None
other-kind files index kind apart was =
    other-place files index.pairs (slot_of index.kind) (slot_of kind) (λ slot first second. apart (one-home index.kind kind slot first second)) was

apart-from-others : (encodings : List Encoding) (kind other : IndexKind) (index : Loaded) → is_needed encodings kind ≡ true
    → index.kind ≡ home_of kind → is_needed encodings (home_of other) ≡ false → home_of index.kind ≢ home_of other
apart-from-others encodings kind other index is same none both =
    let home : home_of index.kind ≡ kind = ap home_of same ∙ home-home kind ∙ needed-at-home kind encodings is in
    let wanted : is_needed encodings (home_of other) ≡ true = ap (is_needed encodings) (sym both ∙ home) ∙ is in
    cc

-- a file that is needed is put
only-put : (encodings : List Encoding) (kind : IndexKind) (old new : Files) → is_needed encodings kind ≡ true → IsPut kind old new
    → HasOnly encodings old → HasOnly encodings new
only-put encodings kind old new is put had =
    ⊎_elim (λ (same : new ≡ old). subst (HasOnly encodings) (sym same) had)
    (λ (p : (index : Loaded) × (index.kind ≡ home_of kind) × (new ≡ with_index old index)).
    let put : HasOnly encodings (with_index old p.0) = record {
      indexes = λ other none. other-kind old p.0 other (apart-from-others encodings kind other p.0 is p.1 none) (had.indexes other none);
      exceptions = λ none. exceptions-kept old p.0 (slot_of p.0.kind) ∙ had.exceptions none;
    } in
    subst (HasOnly encodings) (sym p.2) put)
    put

-- other exceptions, of an encoding that is needed
pub only-excepted : (encodings : List Encoding) (old new : Files) → is_needed encodings Gb18030 ≡ true → new.slots ≡ old.slots
    → HasOnly encodings old → HasOnly encodings new
only-excepted encodings old new is same had = record {
  indexes = λ kind none. ap (λ (slots : List (Option Pairs)). option_and_then (λ slot. slice_index_or slots slot None) (slot_of kind)) same
      ∙ had.indexes kind none;
  exceptions = λ none. absurd (let both : true ≡ false = sym is ∙ none in cc);
}

none-at : (n k : ℕ) → get_or {A = Option Pairs} (replicate n None) k None ≡ None
none-at zero k = refl
none-at (suc n) zero = refl
none-at (suc n) (suc k) = none-at n k

none-there : (o : Option ℕ) → option_and_then (λ slot. slice_index_or no_files.slots slot None) o ≡ None
none-there None = refl
none-there (Some slot) = none-at 34 slot

-- no file is there at first
pub only-none : (encodings : List Encoding) → HasOnly encodings no_files
only-none encodings = record { indexes = λ kind none. none-there (slot_of kind); exceptions = λ none. refl }

-- ---- faults

abbrev entry : IndexKind → List ℕ → IndexKind × List ℕ
entry kind name = (kind, name)

-- the fault of a file among those that are named
named-fault : (files : List (IndexKind × Bor (List ℕ))) (at : ℕ) (kind : IndexKind) (name : Bor (List ℕ)) (encodings : List Encoding)
    → (fault : FolderFault) → is_needed encodings kind ≡ true
    → slice_get (map (λ file. (file.0, file.1.now)) files) at ≡ Some (entry kind name.now) → Names name.now fault
    → IsIndexFault (map (λ file. (file.0, file.1.now)) files) encodings fault
named-fault files at kind name encodings (CannotRead file) is there same =
    record {
      kind = kind;
      is = is;
      at = at;
      named =
          subst (λ (x : List ℕ). slice_get (map (λ f. (f.0, f.1.now)) files) at ≡ Some (entry kind x)) (sym same) there;
    }
named-fault files at kind name encodings (Index fault) is there same =
    record {
      kind = kind;
      is = is;
      at = at;
      named =
          subst (λ (x : List ℕ). slice_get (map (λ f. (f.0, f.1.now)) files) at ≡ Some (entry kind x)) (sym same) there;
    }
named-fault files at kind name encodings OutOfMemory is there same = tt

at-place : (files : List (IndexKind × Bor (List ℕ))) (at : ℕ) (d : IndexKind × Bor (List ℕ)) → at < length files
    → slice_get (map (λ file. (file.0, file.1.now)) files) at ≡ Some (entry (slice_index_or files at d).0 (slice_index_or files at d).1.now)
at-place [] at d within = absurd (omega arith)
at-place (x ∷ xs) zero d within = refl
at-place (x ∷ xs) (suc at) d within = at-place xs at d (omega arith)

pub fault-at : (files : List (IndexKind × Bor (List ℕ))) (at : ℕ) (d : IndexKind × Bor (List ℕ)) (encodings : List Encoding) (fault : FolderFault)
    → at < length files → is_needed encodings (slice_index_or files at d).0 ≡ true → Names (slice_index_or files at d).1.now fault
    → IsIndexFault (map (λ file. (file.0, file.1.now)) files) encodings fault
fault-at files at d encodings fault within is same =
    named-fault files at (slice_index_or files at d).0 (slice_index_or files at d).1 encodings fault is (at-place files at d within) same

pub put-at : (files : List (IndexKind × Bor (List ℕ))) (at : ℕ) (d : IndexKind × Bor (List ℕ)) (encodings : List Encoding) (old new : Files)
    → is_needed encodings (slice_index_or files at d).0 ≡ true → IsPut (slice_index_or files at d).0 old new → HasOnly encodings old
    → HasOnly encodings new
put-at files at d encodings old new is put had = only-put encodings (slice_index_or files at d).0 old new is put had
