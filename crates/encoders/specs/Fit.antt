-- What the encoders need of the indexes that they borrow: no pointer is above those that their bytes can name.
use Rattle.std.specs.Prelude.{◌≡◌, ⊤, ℕ, Option, IfSome, true}
use Rattle.enc_names.specs.declared.encoding.Encoding.TheVariants.{Iso2022Jp}
use Rattle.index_loader.specs.declared.family.Family.{Family}
use Rattle.index_loader.specs.declared.family.Family.TheVariants as of
use Rattle.index_loader.specs.declared.kind.IndexKind.TheVariants as kind
use Rattle.index_loader.specs.{Files.Files, Files.has_files, Index.Loaded, Kinds.greatest_pointer, Table.pointer_limit}

abbrev pub HasLimit : ℕ → Option Loaded → Type 0
HasLimit limit o = IfSome o (λ index. pointer_limit index.kind ≡ limit)

-- the files of ISO-2022-JP are loaded; its encoder looks for them itself
abbrev pub IsFit : Files → Family (Option Loaded) → Type 0
IsFit files (of.SingleByte index) = HasLimit 127 index
IsFit files (of.Gb18030 index ranges) = HasLimit 23939 index × HasLimit 1303111 ranges
IsFit files (of.Pair encoding index) = HasLimit (greatest_pointer (kind.Pair encoding)) index
IsFit files (of.EucJp jis0208 jis0212) = HasLimit 11279 jis0208
IsFit files (of.Iso2022Jp jis0208 katakana) = has_files files Iso2022Jp ≡ true
IsFit files family = ⊤
