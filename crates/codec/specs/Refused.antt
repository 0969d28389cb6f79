-- What refuses a decoding.
use Rattle.std.specs.Prelude.{◌≡◌, true, false, Option, Some, None, Result, Ok, Err}
use Rattle.enc_names.specs.declared.{encoding.Encoding.Encoding, place.Place.Place}
use Rattle.index_loader.specs.Files.{Files, has_files}
use Rattle.codec.specs.declared.fault.CodecFault.{CodecFault, TheVariants.NoIndex, TheVariants.Malformed, TheVariants.OutOfMemory}

-- NoIndex exactly if the declared encoding can't be decoded, then Malformed exactly if an error refuses; a lack of memory can replace any answer
-- except NoIndex
abbrev pub Refused : {A : Type 0} → Files → Encoding → Option Place → Result A CodecFault → Type 0
Refused files given error (Ok x) = (has_files files given ≡ true) × (error ≡ None)
Refused files given error (Err NoIndex) = has_files files given ≡ false
Refused files given error (Err (Malformed place)) = (has_files files given ≡ true) × (error ≡ Some place)
Refused files given error (Err OutOfMemory) = has_files files given ≡ true
