-- A worked session, without index files and with the names alone as labels.
use Rattle.std.specs.Prelude.{List, [], ◌∷◌, codes}
use Rattle.std.specs.FinMap.{empty}
use Rattle.enc_names.specs.{declared.bom.Bom.TheVariants.Sniff, declared.encoding.Encoding.TheVariants.Utf8, Labels.name_labels, Settings.setting_of}
use Rattle.index_loader.specs.Files.{no_files}
use Rattle.desk.specs.Commands.{Ask, Asked, asked_of, Open, Asks, Text, Errors, Splice, Close}
use Rattle.desk.specs.Log.{untouched_by}
use Rattle.desk.specs.{Desk.Office, Desk.answer_of, Documents.Entry, Documents.entry, declared.fault.Fault.TheVariants.OutOfRange, declared.ops.Reply.Reply}
use Rattle.desk.specs.declared.ops.Reply.TheVariants as replies
use Rattle.desk.specs.declared.text_mode.TextMode.TheVariants.{Replacement}

-- UTF-8 E2 82 41: an error of two bytes, and A
abbrev pub truncated : Entry
truncated = entry (setting_of Utf8 Sniff) (0xE2 ∷ 0x82 ∷ 0x41 ∷ []) 0

-- the same at revision 7, after two edits: E2 was put before 41, and then 82 between them
abbrev pub edited_twice : Entry
edited_twice = record truncated { revision = 7; log = record { before = 1; front = 0; back = 1 } ∷ record { before = 2; front = 1; back = 1 } ∷ [] }

-- UTF-8 a, U+1F600, CR, LF, b
abbrev pub pair_and_cr_lf : Entry
pair_and_cr_lf = entry (setting_of Utf8 Sniff) (0x61 ∷ 0xF0 ∷ 0x9F ∷ 0x98 ∷ 0x80 ∷ 0x0D ∷ 0x0A ∷ 0x62 ∷ []) 0

-- the desk after a command
abbrev pub after : Office → Asked → Office
after o c = record o { documents = (answer_of o c).documents }

-- the same, with an edit behind each, at another place, that took nothing out and put nothing in
abbrev pub edited_to_no_end : Entry
edited_to_no_end = record edited_twice {
  log = untouched_by 0 0 1 1 ∷ untouched_by 2 0 0 2 ∷ untouched_by 1 0 1 2 ∷ untouched_by 3 0 0 3 ∷ [];
}

-- the replies to commands, one after another
abbrev pub replies_to : Office → List Asked → List Reply
replies_to o [] = []
replies_to o (c ∷ cs) = (answer_of o c).reply ∷ replies_to (after o c) cs

abbrev pub office_without_files : Office
office_without_files = record { indexes = no_files; labels = name_labels; documents = empty; turn = 0 }

-- asked of the document `a`
abbrev pub a : Ask → Asked
a = asked_of (codes "a")

-- a truncated sequence is completed by a splice: E2 82 41, then E2 82 AC 41
abbrev pub session : List Asked
session =
    a (Open (codes "utf-8") (codes "4oJB") Sniff)
    ∷ a (Asks (Text 0 2 Replacement))
    ∷ a (Asks (Errors 0 10))
    ∷ a (Splice 0 2 0 (codes "rA=="))
    ∷ a (Asks (Text 0 2 Replacement))
    ∷ a (Splice 1 5 0 (codes ""))
    ∷ a Close
    ∷ []

-- the texts are U+FFFD A and U+20AC A
abbrev pub session_replies : List Reply
session_replies =
    replies.Edited (record { bom = 0; encoding = Utf8; rev = 0 })
    ∷ replies.Text (record { rev = 0; text = 0xEF ∷ 0xBF ∷ 0xBD ∷ 0x41 ∷ [] })
    ∷ replies.Errors (record { rev = 0; total = 1; places = record { from = 0; to = 2 } ∷ [] })
    ∷ replies.Edited (record { bom = 0; encoding = Utf8; rev = 1 })
    ∷ replies.Text (record { rev = 1; text = 0xE2 ∷ 0x82 ∷ 0xAC ∷ 0x41 ∷ [] })
    ∷ replies.Refused OutOfRange
    ∷ replies.Closed 1
    ∷ []
