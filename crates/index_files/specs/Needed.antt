-- The index files that encodings need, of which alone a call over these encodings reads (Encoding Standard, "Indexes").
use Rattle.std.specs.Prelude.{◌≡◌, ◌⊎◌, ⊤, ℕ, Bool, true, false, List, [], None, Some, map, slice_get}
use Rattle.std.specs.List.{list_any}
use Rattle.enc_names.specs.declared.encoding.Encoding.{Encoding}
use Rattle.index_loader.specs.declared.kind.{IndexKind.IndexKind, IndexKind.TheVariants.Gb18030}
use Rattle.index_loader.specs.declared.{exceptions.TheConstants.EXCEPTIONS_FILE, kind.TheConstants.INDEX_FILES}
use Rattle.index_loader.specs.{Families.needed, Files.Files, Files.pairs_of, Files.with_index, Index.Loaded, Kinds.family_of, Kinds.home_of, Kinds.same_kind}
use Rattle.index_files.specs.declared.fault.FolderFault.{FolderFault, TheVariants.CannotRead, TheVariants.Index, TheVariants.OutOfMemory}

-- an encoding needs the file of this kind
abbrev pub needs : Encoding → IndexKind → Bool
needs encoding kind = list_any (λ k. same_kind (home_of k) kind) (needed (family_of encoding))

-- one of these encodings does
abbrev pub is_needed : List Encoding → IndexKind → Bool
is_needed encodings kind = list_any (λ e. needs e kind) encodings

-- No index file is loaded that none of these encodings needs. The exceptions belong to gb18030 and GBK.
pub record HasOnly (encodings : List Encoding) (files : Files) : Type 0 where
  pub indexes : (kind : IndexKind) → is_needed encodings (home_of kind) ≡ false → pairs_of files kind ≡ None
  pub exceptions : is_needed encodings Gb18030 ≡ false → files.exceptions ≡ []

-- An index of this kind's file was put among the others, or none was.
abbrev pub IsPut : IndexKind → Files → Files → Type 0
IsPut kind old new = (new ≡ old) ⊎ ((index : Loaded) × (index.kind ≡ home_of kind) × (new ≡ with_index old index))

-- the file that a fault names, if it names one
abbrev pub Names : List ℕ → FolderFault → Type 0
Names name (CannotRead file) = file.now ≡ name
Names name (Index fault) = fault.name.now ≡ name
Names name OutOfMemory = ⊤

-- each kind with the name of its file
abbrev pub named_files : List (IndexKind × List ℕ)
named_files = map (λ file. (file.0, file.1.now)) INDEX_FILES

-- One of these encodings needs the file of this name, which is one of these.
pub record IsNameOf (files : List (IndexKind × List ℕ)) (encodings : List Encoding) (name : List ℕ) : Type 0 where
  pub kind : IndexKind
  pub is : is_needed encodings kind ≡ true
  pub at : ℕ
  pub named : slice_get files at ≡ Some (kind, name)

-- by the cause: the file that it names is one of these
abbrev pub IsIndexFault : List (IndexKind × List ℕ) → List Encoding → FolderFault → Type 0
IsIndexFault files encodings (CannotRead name) = IsNameOf files encodings name.now
IsIndexFault files encodings (Index fault) = IsNameOf files encodings fault.name.now
IsIndexFault files encodings OutOfMemory = ⊤

-- The file that a fault names, if it names one, is that of an index that one of these encodings needs. If gb18030 or GBK is one of them, it may
-- be that of the exceptions.
abbrev pub IsFaultOf : List Encoding → FolderFault → Type 0
IsFaultOf encodings fault = IsIndexFault named_files encodings fault ⊎ ((is_needed encodings Gb18030 ≡ true) × Names EXCEPTIONS_FILE.now fault)
