-- Documents of the worked examples.
use Rattle.std.specs.Prelude.{ℕ, List}
use Rattle.enc_names.specs.declared.bom.Bom.TheVariants.{Sniff, Keep}
use Rattle.enc_names.specs.{declared.encoding.Encoding.TheVariants.Utf8, Settings.setting_of, declared.place.Place.Place}
use Rattle.index_loader.specs.Files.{no_files}
use Rattle.piece_rope.specs.Document.{Document, document}

-- a document in UTF-8, with no index file
abbrev pub in_utf8 : List ℕ → Document
in_utf8 bytes = document no_files (setting_of Utf8 Sniff) bytes

-- the same whose byte order marks are kept
abbrev pub in_utf8_keeping : List ℕ → Document
in_utf8_keeping bytes = document no_files (setting_of Utf8 Keep) bytes

-- the bytes from one place to another
abbrev pub at : ℕ → ℕ → Place
at from to = record { from = from; to = to }
