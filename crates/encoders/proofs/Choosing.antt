-- An encoding's own encoder is what its definition says, where its index files are there.
use Rattle.std.proofs.Common.{◌≡◌, ℕ, ◌+◌, Bool, true, List, [], ◌∷◌, get_or, Option, Some, None, Result, Ok, Err, rules, refl, sym, ap, ◌∙◌}
use Rattle.std.{specs.Option.option_map, specs.Char.encode_utf8, specs.Str.chars, specs.Str.encode_utf8_all, specs.Str.IsUtf8, proofs.lemmas.Str.encodes-chars}
use Rattle.index_loader.specs.{declared.kind.IndexKind.IndexKind, Families.needed, Table.pointer_limit, Kinds.family_of, Kinds.home_of}
use Rattle.index_loader.specs.Files.{Files, Pairs, pairs_of, indexes_of, has_files}
use Rattle.decoder_core.specs.declared.{utf16.ByteOrder.ByteOrder, fault.FromFault.FromFault, fault.Unencodable.Unencodable}
use Rattle.decoder_core.specs.declared.fault.FromFault.TheVariants.{Unencodable as unencodable, OutOfMemory}
use Rattle.encoders.specs.{declared.fault.EncodeFault.EncodeFault, Stateless.stateless, Fit.HasLimit, Fit.IsFit, Utf16.units_bytes, Utf16.utf16_bytes}
use Rattle.encoders.specs.{Encode.IsEncoded, Encode.bytes_only, Encode.from_fault, Steps.IsFrom, Steps.Put, Steps.encoded_from}
use Rattle.enc_names.specs.declared.encoding.Encoding.{Encoding}
use Rattle.lane_utf.specs.Utf16.{utf16_forms}
use Rattle.encoders.proofs.Utf16Forms.{utf16_all}
use Rattle.enc_names.specs.declared.encoding.Encoding.TheVariants as name
use Rattle.index_loader.specs.declared.kind.IndexKind.TheVariants as kind

-- the bytes by one function
abbrev pub by_bytes : (ℕ → Option (List ℕ)) → Bool → List ℕ → Result (List ℕ) EncodeFault
by_bytes bytes html cs = bytes_only (encoded_from (stateless bytes) html 0 tt cs)

-- UTF-8's bytes are those of the text
utf8-all : (html : Bool) (index : ℕ) (cs : List ℕ) → encoded_from (stateless (λ c. Some (encode_utf8 c))) html index tt cs
    ≡ Ok (record { bytes = encode_utf8_all cs; state = tt })
utf8-all html index [] = refl
utf8-all html index (c ∷ cs) = rw (utf8-all html (index + 1) cs)

pub by_utf8 : (html : Bool) (bytes : List ℕ) → IsUtf8 bytes → by_bytes (λ c. Some (encode_utf8 c)) html (chars bytes) ≡ Ok bytes
by_utf8 html bytes is = rw (utf8-all html 0 (chars bytes), encodes-chars bytes is)

pub by_utf16 : (order : ByteOrder) (html : Bool) (cs : List ℕ) → by_bytes (utf16_bytes order) html cs ≡ Ok (units_bytes order (utf16_forms cs))
by_utf16 order html cs = ap bytes_only (utf16_all order html 0 cs)

-- a fault from a state on, as one of the whole
pub failed : {S : Type 0} (w v : Result (Put S) Unencodable) (f : FromFault) → w ≡ v → IsFrom w (Err f) → IsEncoded (bytes_only v) (Err (from_fault f))
failed w v (unencodable e) same h = ap bytes_only (sym same ∙ h)
failed w v OutOfMemory same h = tt

-- an index is of the kind under which its file is kept, which has pointers as large
limited : (kind : IndexKind) (o : Option Pairs) → HasLimit (pointer_limit kind) (option_map (λ pairs. record { kind = home_of kind; pairs = pairs }) o)
limited kind (Some pairs) = Prim.search rules
limited kind None = tt

-- each encoder's indexes are what it rests on: those of the first of the kinds that its encoding needs, or of two
pub fit : (files : Files) (encoding : Encoding) → has_files files encoding ≡ true → IsFit files (indexes_of files encoding)
fit files name.Utf8 there = tt
fit files name.Gbk there = (limited kind.Gb18030 (pairs_of files kind.Gb18030), limited kind.Gb18030Ranges (pairs_of files kind.Gb18030Ranges))
fit files name.Gb18030 there = (limited kind.Gb18030 (pairs_of files kind.Gb18030), limited kind.Gb18030Ranges (pairs_of files kind.Gb18030Ranges))
fit files name.Iso2022Jp there = there
fit files name.Replacement there = tt
fit files name.Utf16Be there = tt
fit files name.Utf16Le there = tt
fit files name.XUserDefined there = tt
fit files encoding there = let first = get_or (needed (family_of encoding)) 0 kind.Jis0208 in limited first (pairs_of files first)
