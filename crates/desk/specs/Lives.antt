-- Lives of a document: from its open or adoption to its close, with each accepted edit.
use Rattle.std.specs.Prelude.{◌≡◌, ◌≤◌, ◌<◌, ℕ, ◌+◌, ◌-◌, ◌&&◌, Bool, true, false, List, [], ◌∷◌, ◌++◌, length, is_some, if◌then◌else◌, Option, Some, None}
use Rattle.std.specs.Prelude.{Result, Ok, Err}
use Rattle.std.specs.{Str.bytes_eq, Str.chars, FinMap.get}
use Rattle.enc_names.specs.{declared.bom.Bom.Bom, declared.encoding.Encoding.Encoding, declared.setting.Setting.Setting, Settings.setting_of, Labels.lookup_in}
use Rattle.index_loader.specs.Files.{Files}
use Rattle.piece_rope.specs.{Document.document, Edits.spliced}
use Rattle.position_map.specs.declared.change_fault.ChangeFault.{ChangeFault}
use Rattle.position_map.specs.{declared.plan.Plan.Plan, declared.position.Range.Range, declared.unit.Unit.Unit as TextUnit, Plan.planned}
use Rattle.position_map.specs.Plan.{Inserted, Encoded, Given}
use Rattle.desk.specs.Accepted.{is_accepted}
use Rattle.desk.specs.Commands.{Ask, Asked, asked_of, Splice, Change, Changes, Replace, Close, Open}
use Rattle.desk.specs.{Changes.TextChange, Desk.Office, Desk.Answers, Desk.Adopts}
use Rattle.desk.specs.{Documents.Entry, Documents.entry, Effects.base64_bytes, Log.Leads, Log.Leaves, Log.log_length, Log.logged_all, Since.patch_since}
use Rattle.desk.specs.declared.{fault.Fault.Fault, fault.Fault.TheVariants.Forgotten, ops.Reply.Reply, untouched.Patch.Patch, untouched.Untouched.Untouched}

-- ---- what happens to a desk

-- a command with its reply, or an adoption with its answer
pub data Act : Type 0 where
  Commanded : Asked → Reply → Act
  -- name setting bytes rev
  Adopted : List ℕ → Setting → List ℕ → ℕ → Result (Unit {0}) Fault → Act

abbrev pub Acts : Office → Act → Office → Type 0
Acts o (Commanded c reply) p = Answers o c reply p
Acts o (Adopted name setting bytes rev answer) p = Adopts o name setting bytes rev answer p

-- one after another
abbrev pub ActsAll : Office → List Act → Office → Type 0
ActsAll o [] p = p ≡ o
ActsAll o (a ∷ acts) p = (mid : Office) × Acts o a mid × ActsAll mid acts p

-- ---- the edits of a document, and its close

-- the revision that an edit names
abbrev pub named_by : Ask → Option ℕ
named_by (Splice rev at del bytes) = Some rev
named_by (Change rev unit range text) = Some rev
named_by (Changes rev unit changes) = Some rev
named_by (Replace rev unit range text bytes) = Some rev
named_by ask = None

-- it asks for an edit
abbrev pub is_edit : Ask → Bool
is_edit ask = is_some (named_by ask)

abbrev pub is_close : Ask → Bool
is_close Close = true
is_close ask = false

-- the accepted edits of the document d, in their order
abbrev pub edit_in : List ℕ → Act → List Ask
edit_in d (Commanded c reply) = if bytes_eq c.doc d && (is_edit c.ask && is_accepted reply) then c.ask ∷ [] else []
edit_in d (Adopted name setting bytes rev answer) = []

abbrev pub edits_of : List ℕ → List Act → List Ask
edits_of d [] = []
edits_of d (a ∷ acts) = edit_in d a ++ edits_of d acts

-- a close of the document d is accepted
abbrev pub ends_life : List ℕ → Act → Bool
ends_life d (Commanded c reply) = bytes_eq c.doc d && (is_close c.ask && is_accepted reply)
ends_life d (Adopted name setting bytes rev answer) = false

-- none is
abbrev pub Lasts : List ℕ → List Act → Type 0
Lasts d [] = Unit {0}
Lasts d (a ∷ acts) = (ends_life d a ≡ false) × Lasts d acts

-- ---- what edits do

abbrev pub with_spliced : List ℕ → ℕ → ℕ → Option (List ℕ) → List ℕ
with_spliced bytes at del None = bytes
with_spliced bytes at del (Some ins) = spliced bytes at del ins

abbrev pub with_planned : List ℕ → Result Plan ChangeFault → List ℕ
with_planned bytes (Err fault) = bytes
with_planned bytes (Ok plan) = spliced bytes plan.at plan.del plan.ins

-- the bytes that the splice planned for a range leaves
abbrev pub with_new : Files → Setting → TextUnit → Option Range → Inserted → List ℕ → List ℕ
with_new indexes setting unit range new bytes = with_planned bytes (planned (document indexes setting bytes) range unit new)

-- that of a change
abbrev pub with_change : Files → Setting → TextUnit → Option Range → List ℕ → List ℕ → List ℕ
with_change indexes setting unit range text bytes = with_new indexes setting unit range (Encoded (chars text)) bytes

-- that of given bytes
abbrev pub with_given : Files → Setting → TextUnit → Option Range → Option (List ℕ) → List ℕ → List ℕ
with_given indexes setting unit range None bytes = bytes
with_given indexes setting unit range (Some ins) bytes = with_new indexes setting unit range (Given ins) bytes

-- and those of a list, each on the bytes that the one before left
abbrev pub with_changes : Files → Setting → TextUnit → List TextChange → List ℕ → List ℕ
with_changes indexes setting unit [] bytes = bytes
with_changes indexes setting unit (c ∷ cs) bytes = with_changes indexes setting unit cs (with_change indexes setting unit c.range c.text bytes)

-- the bytes that an edit leaves of these
abbrev pub edited_by : Files → Setting → List ℕ → Ask → List ℕ
edited_by indexes setting bytes (Splice rev at del text) = with_spliced bytes at del (base64_bytes text)
edited_by indexes setting bytes (Change rev unit range text) = with_change indexes setting unit range text bytes
edited_by indexes setting bytes (Changes rev unit changes) = with_changes indexes setting unit changes bytes
edited_by indexes setting bytes (Replace rev unit range text given) = with_given indexes setting unit range (base64_bytes given) bytes
edited_by indexes setting bytes ask = bytes

abbrev pub edited_by_all : Files → Setting → List ℕ → List Ask → List ℕ
edited_by_all indexes setting bytes [] = bytes
edited_by_all indexes setting bytes (e ∷ es) = edited_by_all indexes setting (edited_by indexes setting bytes e) es

-- The first edit names this revision, and each further one the next.
abbrev pub NameFrom : ℕ → List Ask → Type 0
NameFrom r [] = Unit {0}
NameFrom r (e ∷ es) = (named_by e ≡ Some r) × NameFrom (r + 1) es

-- Each edit leaves this of the bytes that it finds.
abbrev pub LeaveEach : Files → Setting → List ℕ → List Ask → List Untouched → Type 0
LeaveEach indexes setting bytes [] [] = Unit {0}
LeaveEach indexes setting bytes (e ∷ es) (u ∷ us) =
    Leaves bytes (edited_by indexes setting bytes e) u × LeaveEach indexes setting (edited_by indexes setting bytes e) es us
LeaveEach indexes setting bytes es us = ⊥

-- The entry is the one of the beginning with the edits applied in their order, each once, and each named the revision that it found. The log
-- has what the last of them left.
pub record IsLife (indexes : Files) (begin : Entry) (edits : List Ask) (now : Entry) : Type 0 where
  pub setting : now.setting ≡ begin.setting
  pub revision : now.revision ≡ begin.revision + length edits
  pub named : NameFrom begin.revision edits
  pub bytes : now.bytes ≡ edited_by_all indexes begin.setting begin.bytes edits
  pub left : List Untouched
  pub each : LeaveEach indexes begin.setting begin.bytes edits left
  pub log : now.log ≡ logged_all begin.log left

abbrev pub Lives : Type 0
Lives = (d : List ℕ) (o p : Office) (acts : List Act) (begin : Entry) → get o.documents d ≡ Some begin → ActsAll o acts p → Lasts d acts
    → (now : Entry) × (get p.documents d ≡ Some now) × IsLife o.indexes begin (edits_of d acts) now

-- ---- what came since a revision

-- `edits` edits after an entry, the splice since its revision leads from its bytes to those now, if the log can have all the edits. Otherwise the
-- revision is forgotten, and the oldest that isn't is named.
pub record LeadsSince (begin now : Entry) (edits : ℕ) : Type 0 where
  pub known : edits ≤ log_length → (patch : Patch) × (patch_since now begin.revision ≡ Ok patch) × Leads begin.bytes now.bytes patch
  pub forgotten : log_length < edits → patch_since now begin.revision ≡ Err (Forgotten (now.revision - log_length))

abbrev pub SinceLeads : Type 0
SinceLeads = (d : List ℕ) (o p : Office) (acts : List Act) (begin : Entry) → get o.documents d ≡ Some begin → ActsAll o acts p → Lasts d acts
    → (now : Entry) × (get p.documents d ≡ Some now) × LeadsSince begin now (length (edits_of d acts))

-- ---- where lives begin and end

-- An accepted open begins a life at revision 0, with the bytes of the base64 text. Its setting has the encoding that the label names, and
-- the treatment of a mark.
pub record Begins (o : Office) (doc label text : List ℕ) (bom : Bom) (p : Office) : Type 0 where
  pub given : Encoding
  pub bytes : List ℕ
  pub free : get o.documents doc ≡ None
  pub labelled : lookup_in o.labels label ≡ Some given
  pub read : base64_bytes text ≡ Some bytes
  pub begin : get p.documents doc ≡ Some (entry (setting_of given bom) bytes 0)

abbrev pub OpensBegin : Type 0
OpensBegin = (o p : Office) (doc label text : List ℕ) (bom : Bom) (reply : Reply) → Answers o (asked_of doc (Open label text bom)) reply p
    → is_accepted reply ≡ true → Begins o doc label text bom p

abbrev pub done : Result (Unit {0}) Fault
done = Ok tt

-- An accepted adoption begins one at the stated revision.
abbrev pub AdoptionsBegin : Type 0
AdoptionsBegin = (o p : Office) (name : List ℕ) (setting : Setting) (bytes : List ℕ) (rev : ℕ) → Adopts o name setting bytes rev done p
    → (get o.documents name ≡ None) × (get p.documents name ≡ Some (entry setting bytes rev))

-- An accepted close ends one.
abbrev pub ClosesEnd : Type 0
ClosesEnd = (o p : Office) (doc : List ℕ) (reply : Reply) → Answers o (asked_of doc Close) reply p → is_accepted reply ≡ true → get p.documents doc ≡ None
