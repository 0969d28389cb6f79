-- The loaded index files and which of them an encoding needs (Encoding Standard, "Indexes").
use Rattle.std.specs.Prelude.{Bool, List, [], replicate, set, Option, Some, None, is_some, option_and_then, option_map, slice_index_or}
use Rattle.std.specs.{List.list_all, Option.option_map_or}
use Rattle.enc_names.specs.declared.encoding.Encoding.{Encoding}
use Rattle.index_loader.specs.declared.{kind.IndexKind.IndexKind, family.Family.Family}
use Rattle.index_loader.specs.{Exceptions.ExceptionTable, Families.family_map, Families.needed, Index.Loaded, Kinds.family_of, Kinds.home_of, Kinds.slot_of}
pub use Rattle.index_loader.specs.Pairs.{Pairs}

-- the loaded files: at each kind's place the pairs of the file of that kind, if it is loaded; and the exceptions of the gb18030
-- encoder, if their file is loaded
pub record Files : Type 0 where
  pub slots : List (Option Pairs)
  pub exceptions : ExceptionTable

-- no file at all
abbrev pub no_files : Files
no_files = record { slots = replicate 34 None; exceptions = [] }

-- the pairs of the file of a kind
abbrev pub pairs_of : Files → IndexKind → Option Pairs
pairs_of files kind = option_and_then (λ slot. slice_index_or files.slots slot None) (slot_of kind)

-- the index of a kind
abbrev pub index_of : Files → IndexKind → Option Loaded
index_of files kind = option_map (λ pairs. record { kind = home_of kind; pairs = pairs }) (pairs_of files kind)

-- the files with this index in place of that of its kind
abbrev pub with_index : Files → Loaded → Files
with_index files index = option_map_or (λ slot. record { slots = set files.slots slot (Some index.pairs); exceptions = files.exceptions })
    (slot_of index.kind) files

-- the files with these exceptions in place of those that were there
abbrev pub with_exceptions : Files → ExceptionTable → Files
with_exceptions files exceptions = record { slots = files.slots; exceptions = exceptions }

-- the indexes that an encoding needs, each if its file is loaded
abbrev pub indexes_of : Files → Encoding → Family (Option Loaded)
indexes_of files encoding = family_map (index_of files) (family_of encoding)

-- all files that an encoding needs are loaded, so it is decoded and encoded
unfoldable pub has_files : Files → Encoding → Bool
has_files files encoding = list_all (λ kind. is_some (pairs_of files kind)) (needed (family_of encoding))
