-- The documents of a gateway as a head: what is written of them, and what whoever takes it has.
use Rattle.std.specs.Prelude.{◌≡◌, ℕ, ◌<◌, ◌≤◌, true, List, [], ◌∷◌, ◌++◌, length, map, replicate, codes, Option, None, Result, Ok, Err}
use Rattle.std.specs.{List.concat, Option.option_map, Fmt.decimal, FinMap.empty, FinMap.entries, FinMap.get, Io.KnownBytes.Appends, Str.is_utf8}
use Rattle.base64.specs.{Engines.standard, GeneralPurpose.encode_of, GeneralPurpose.IsBytes}
use Rattle.enc_names.specs.declared.bom.Bom.{Bom, TheVariants.Sniff, TheVariants.Keep}
use Rattle.enc_names.specs.{declared.setting.Setting.Setting, Names.name_of}
use Rattle.desk.specs.Desk.{Office, max_documents}
use Rattle.desk.specs.{Documents.Entry, Documents.entry, Held.IsAdoptable, Since.patch_since, declared.fault.Fault.TheVariants.Forgotten}
use Rattle.connections.specs.{Traffic.Traffic, Events.connections, Lines.complete, Lines.unfinished}
use Rattle.gateway.specs.Head.{HeadOn, HeadIsBad, HeadPlace, Heading, ObeysAll, Whatever, first_place, heading}
use Rattle.records.specs.{Names.AreNamed, Playing.PlaysEach, declared.documents.CompactFault.CompactFault, declared.documents.CompactFault.TheVariants.Write}

-- ---- what is written

-- the most bytes of a part
abbrev pub most_of_part : ℕ
most_of_part = 49152

-- lines with their line feeds
abbrev pub lined : List (List ℕ) → List ℕ
lined [] = []
lined (line ∷ lines) = line ++ 10 ∷ lined lines

-- the line of a part
abbrev pub part_words : List ℕ → List ℕ
part_words part = codes "part " ++ encode_of standard part

-- each part is of some bytes, and not too many
abbrev pub AreParts : List (List ℕ) → Type 0
AreParts [] = Unit {0}
AreParts (part ∷ parts) = (0 < length part) × (length part ≤ most_of_part) × IsBytes part × AreParts parts

-- what becomes of a byte order mark, in a word
abbrev pub bom_word : Bom → List ℕ
bom_word Sniff = codes "sniff"
bom_word Keep = codes "keep"

-- the words for how its bytes are read, and its revision
abbrev pub described_words : Setting → ℕ → List ℕ
described_words setting revision = name_of setting.given ++ 32 ∷ (bom_word setting.bom ++ 32 ∷ decimal revision)

-- the line by which a document is adopted
abbrev pub adopt_words : List ℕ → Setting → ℕ → List ℕ
adopt_words name setting revision = codes "adopt " ++ (encode_of standard name ++ 32 ∷ described_words setting revision)

-- The text has these bytes, in parts.
pub record IsOfBytes (bytes text : List ℕ) : Type 0 where
  pub parts : List (List ℕ)
  pub are : AreParts parts
  pub joined : concat parts ≡ bytes
  pub is : text ≡ lined (map part_words parts)

-- The text has a document: its bytes, and the line by which it is adopted.
pub record IsOfDocument (d : List ℕ × Entry) (text : List ℕ) : Type 0 where
  pub front : List ℕ
  pub bytes : IsOfBytes d.1.bytes front
  pub name : IsBytes d.0
  pub is : text ≡ front ++ lined (adopt_words d.0 d.1.setting d.1.revision ∷ [])

-- The text has these documents, one after another.
abbrev pub IsOfDocuments : List (List ℕ × Entry) → List ℕ → Type 0
IsOfDocuments [] text = text ≡ []
IsOfDocuments (d ∷ ds) text = (front rest : List ℕ) × (text ≡ front ++ rest) × IsOfDocument d front × IsOfDocuments ds rest

-- A text was written, by the answer; or the device failed or memory ran out, and something was.
abbrev pub Puts : {A : Type 0} → Result A CompactFault → (List ℕ → Type 0) → Option (List ℕ) → Option (List ℕ) → Type 0
Puts (Ok x) Is before after = (text : List ℕ) × Appends before after text × Is text
Puts (Err fault) Is before after = (text : List ℕ) × Appends before after text

-- how many of the writes failed
abbrev pub compact_failures : {A : Type 0} → Result A CompactFault → ℕ
compact_failures (Err Write) = 1
compact_failures r = 0

-- ---- what could be adopted

-- each of these documents could be adopted as it is, and its name is a text
abbrev pub AreAdoptable : Office → List (List ℕ × Entry) → Type 0
AreAdoptable office [] = Unit {0}
AreAdoptable office (d ∷ ds) = IsAdoptable office.indexes d.1 × (is_utf8 d.0 ≡ true) × AreAdoptable office ds

pub record IsCompactable (office : Office) : Type 0 where
  pub each : AreAdoptable office (entries office.documents)
  pub few : length (entries office.documents) ≤ max_documents

-- ---- what whoever takes it has

-- a desk with no document, and with the same index files
pub record Begins (fresh office : Office) : Type 0 where
  pub indexes : fresh.indexes ≡ office.indexes
  pub documents : fresh.documents ≡ empty

-- a document as it is, whose edits are forgotten
abbrev pub forgotten : Entry → Entry
forgotten h = entry h.setting h.bytes h.revision

-- The same documents are there, with their settings, bytes and revisions, and with no edit in their logs.
pub record AreAsBefore (office fresh new : Office) : Type 0 where
  pub documents : (name : List ℕ) → get new.documents name ≡ option_map forgotten (get office.documents name)
  pub indexes : new.indexes ≡ fresh.indexes
  pub labels : new.labels ≡ fresh.labels

-- ---- laws

-- The text is the head of a record: obeyed from a desk with no document on, it leads to the same documents, and its last line is whole.
pub record IsHeadOf (office fresh : Office) (text : List ℕ) : Type 0 where
  pub new : Office
  pub same : AreAsBefore office fresh new
  pub obeyed : ObeysAll (heading fresh []) (complete [] text) (heading new [])
  pub whole : unfinished [] text ≡ []

abbrev pub DocumentsAreHeads : Type 0
DocumentsAreHeads = (office fresh : Office) (text : List ℕ) → IsCompactable office → AreNamed office.documents
    → IsOfDocuments (entries office.documents) text → Begins fresh office → IsHeadOf office fresh text

-- no document, and no connection that is open
pub record IsNew (t : Traffic) : Type 0 where
  pub documents : t.office.documents ≡ empty
  pub lines : t.lines ≡ replicate connections None

-- What is written of a gateway to which a record led, played from its first line or a later one on, is such a head.
abbrev pub PlayedAreHeads : Type 0
PlayedAreHeads = (old new : Traffic) (fresh : Office) (lines : List (List ℕ)) (was is : Option (List ℕ)) (text : List ℕ) → IsNew old
    → PlaysEach was lines old new is
    → IsCompactable new.office → IsOfDocuments (entries new.office.documents) text → Begins fresh new.office → IsHeadOf new.office fresh text

-- Lines of a head that are obeyed lead to one desk.
abbrev pub HeadsLeadOn : Type 0
HeadsLeadOn = (old new other : Heading) (lines : List (List ℕ)) → ObeysAll old lines new → ObeysAll old lines other → new ≡ other

-- Where the lines of a text can be obeyed, none is bad, wherever it is cut.
abbrev pub ObeyedAreGood : Type 0
ObeyedAreGood = (fresh mid : Office) (new : Heading) (front back : List ℕ) (place : HeadPlace)
    → ObeysAll (heading fresh []) (complete [] (front ++ back)) new → unfinished [] (front ++ back) ≡ []
    → HeadOn front fresh mid first_place place → HeadIsBad back Whatever mid place → ⊥

-- Such a document tells nothing of what became of it since an earlier revision.
abbrev pub EditsAreForgotten : Type 0
EditsAreForgotten = (h : Entry) (rev : ℕ) → rev < h.revision → patch_since (forgotten h) rev ≡ Err (Forgotten h.revision)
