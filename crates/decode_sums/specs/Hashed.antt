-- What is hashed of the texts of documents.
use Rattle.std.specs.Prelude.{ℕ, zero, suc, List, [], ◌∷◌, ◌++◌, fold, None, Err}
use Rattle.std.specs.Str.{encode_utf8_all}
use Rattle.enc_names.specs.{declared.bom.Bom.TheVariants.Sniff, declared.encoding.Encoding.Encoding, Settings.setting_of}
use Rattle.index_loader.specs.Files.{Files}
use Rattle.decoder_core.specs.Text.{code_points}
use Rattle.codec.specs.{Decode.decode, Refused.Refused, declared.fault.CodecFault.CodecFault, declared.fault.CodecFault.TheVariants.OutOfMemory}
use Rattle.decode_sums.specs.{declared.form.Form.Form, Documents.count_of, Documents.document_of}

-- of one document: its text in UTF-8 and the byte FF, which no UTF-8 has
abbrev pub hashed_of : Files → Encoding → List ℕ → List ℕ
hashed_of files encoding document = encode_utf8_all (code_points (decode files (setting_of encoding Sniff) document).items) ++ 255 ∷ []

-- of the first n documents of a form
abbrev pub hashed_below : Files → Encoding → Form → ℕ → List ℕ
hashed_below files encoding form zero = []
hashed_below files encoding form (suc n) = hashed_below files encoding form n ++ hashed_of files encoding (document_of form n)

-- of all documents of these forms
abbrev pub hashed_in : Files → Encoding → List Form → List ℕ
hashed_in files encoding forms = fold (λ hashed form. hashed ++ hashed_below files encoding form (count_of form)) [] forms

-- why there is no sum: memory ran out, or what refuses a decoding
abbrev pub IsFault : Files → Encoding → CodecFault → Type 0
IsFault files encoding OutOfMemory = Unit {0}
IsFault files encoding fault = Refused {A = Unit {0}} files encoding None (Err fault)
