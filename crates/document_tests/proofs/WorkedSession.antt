-- A session, worked by the definition.
use Rattle.std.proofs.Common.{◌≡◌, ℕ, List, [], ◌∷◌, codes, drop, nat_lt, refl, ap, ◌∙◌}
use Rattle.std.specs.declared.option.Option.TheVariants.{None, Some}
use Rattle.std.specs.{Cmp.Lexicographic.slice_cmp, Cmp.Lexicographic.nat_list_cmp_total, Ordering.nat_cmp}
use Rattle.std.specs.FinMap as finite
use lib.Utf8.{encode}
use Rattle.std.specs.declared.result.Result.TheVariants.{Ok}
use Rattle.base64.proofs.OnLiterals.{base64_on_literals}
use Rattle.enc_names.specs.{declared.bom.Bom.TheVariants.Sniff, declared.encoding.Encoding.TheVariants.Utf8, Labels.name_labels, Settings.setting_of}
use Rattle.index_loader.specs.Files.{no_files, has_files}
use Rattle.decoder_core.specs.Queue.{run, turns}
use Rattle.piece_rope.specs.Decode.{decode}
use Rattle.piece_rope.specs.{Document.decoded_text, Document.decoded_errors, Edits.open_fault, Edits.splice_fault, Edits.range_fault, Edits.number_fault}
use Rattle.desk.specs.{Close.closed, Commands.Asked, Commands.Open, Commands.Close, Commands.Splice, Commands.Asks, Commands.Text, Commands.Errors}
use Rattle.desk.specs.Desk.{Office, Outcome, max_documents, outcome, answer_of, has_place}
use Rattle.desk.specs.Documents.{Entry, Names, edited_entry, edit_reply}
use Rattle.desk.specs.Effects.{Puts, base64_bytes, with_bytes, replied, refused, put, of_document}
use Rattle.desk.specs.{Errors.errors_reply, Log.untouched_by}
use Rattle.desk.specs.{Open.admitted, Open.opened, Splice.splice_effect, Text.text_reply, declared.fault.Fault.TheVariants.OutOfRange, declared.ops.Reply.Reply}
use Rattle.document_tests.specs.Session.{a, replies_to, office_without_files, truncated, session, session_replies}
use Rattle.desk.specs.declared.ops.Reply.TheVariants as replies
use Rattle.desk.specs.declared.text_mode.TextMode.TheVariants.{Replacement}

opened_bytes : base64_bytes (codes "4oJB") ≡ Some (0xE2 ∷ 0x82 ∷ 0x41 ∷ [])
unfolding base64_on_literals
opened_bytes = refl

spliced_bytes : base64_bytes (codes "rA==") ≡ Some (0xAC ∷ [])
unfolding base64_on_literals
spliced_bytes = refl

no_bytes : base64_bytes (codes "") ≡ Some []
unfolding base64_on_literals
no_bytes = refl

-- ---- what is held, and what it decodes to

abbrev completed : Entry
completed = edited_entry truncated (0xE2 ∷ 0x82 ∷ 0xAC ∷ 0x41 ∷ []) 1 (untouched_by 2 0 1 3)

truncated_edit : edit_reply no_files truncated ≡ replies.Edited (record { bom = 0; encoding = Utf8; rev = 0 })
unfolding decode
truncated_edit = refl

truncated_text : text_reply no_files truncated 0 2 Replacement ≡ Ok (replies.Text (record { rev = 0; text = 0xEF ∷ 0xBF ∷ 0xBD ∷ 0x41 ∷ [] }))
unfolding range_fault decoded_text decode run turns encode
truncated_text = refl

truncated_errors : errors_reply no_files truncated 0 10 ≡ Ok (replies.Errors (record { rev = 0; total = 1; places = record { from = 0; to = 2 } ∷ [] }))
unfolding number_fault decoded_errors decode run turns
truncated_errors = refl

completed_text : text_reply no_files completed 0 2 Replacement ≡ Ok (replies.Text (record { rev = 1; text = 0xE2 ∷ 0x82 ∷ 0xAC ∷ 0x41 ∷ [] }))
unfolding range_fault decoded_text decode run turns encode
completed_text = refl

completing : splice_effect no_files 0 2 0 (0xAC ∷ []) truncated ≡ record {
  reply = replies.Edited (record { bom = 0; encoding = Utf8; rev = 1 });
  move = Puts completed;
}
unfolding splice_fault decode
completing = refl

past_end : splice_effect no_files 1 5 0 [] completed ≡ refused OutOfRange
unfolding splice_fault
past_end = refl

admitting : (n : ℕ) → n ≡ 0 → admitted no_files (nat_lt n max_documents) (setting_of Utf8 Sniff) truncated.bytes 0 ≡ Ok truncated
unfolding has_files open_fault
admitting n e = rw e refl

-- ---- the documents

abbrev name : List ℕ
name = codes "a"

abbrev one : Names
one = finite.insert finite.empty name truncated

abbrev two : Names
two = finite.insert one name completed

abbrev nothing : Names
nothing = finite.empty

no_entry : finite.get nothing name ≡ None
no_entry = finite.get-empty (slice_cmp nat_cmp) name

one_entry : finite.get one name ≡ Some truncated
one_entry = finite.get-insert nat_list_cmp_total finite.empty name truncated name

two_entries : finite.get two name ≡ Some completed
two_entries = finite.get-insert nat_list_cmp_total one name completed name

-- ---- the steps

abbrev office : Names → Office
office documents = record { indexes = no_files; labels = name_labels; documents = documents; turn = 0 }

opens : answer_of (office nothing) (a (Open (codes "utf-8") (codes "4oJB") Sniff)) ≡ record { reply = replies.Edited (record { bom = 0; encoding = Utf8; rev = 0 }); documents = one }
opens =
    ap (λ b. outcome nothing name (with_bytes b (λ x. opened no_files (has_place nothing) (finite.get nothing name) x (Some Utf8) Sniff))) opened_bytes
    ∙ ap (λ found. outcome nothing name (opened no_files (has_place nothing) found truncated.bytes (Some Utf8) Sniff)) no_entry
    ∙ ap (λ r. outcome nothing name (put (edit_reply no_files) r)) (admitting _ (finite.len-empty (slice_cmp nat_cmp) Entry))
    ∙ ap (λ r. record { reply = r; documents = one }) truncated_edit

reads_truncated : answer_of (office one) (a (Asks (Text 0 2 Replacement)))
    ≡ record { reply = replies.Text (record { rev = 0; text = 0xEF ∷ 0xBF ∷ 0xBD ∷ 0x41 ∷ [] }); documents = one }
reads_truncated =
    ap (λ found. outcome one name (of_document found (λ h. replied (text_reply no_files h 0 2 Replacement)))) one_entry
    ∙ ap (λ r. outcome one name (replied r)) truncated_text

lists_errors : answer_of (office one) (a (Asks (Errors 0 10)))
    ≡ record { reply = replies.Errors (record { rev = 0; total = 1; places = record { from = 0; to = 2 } ∷ [] }); documents = one }
lists_errors =
    ap (λ found. outcome one name (of_document found (λ h. replied (errors_reply no_files h 0 10)))) one_entry
    ∙ ap (λ r. outcome one name (replied r)) truncated_errors

splices : answer_of (office one) (a (Splice 0 2 0 (codes "rA=="))) ≡ record { reply = replies.Edited (record { bom = 0; encoding = Utf8; rev = 1 }); documents = two }
splices =
    ap (λ b. outcome one name (with_bytes b (λ ins. of_document (finite.get one name) (splice_effect no_files 0 2 0 ins)))) spliced_bytes
    ∙ ap (λ found. outcome one name (of_document found (splice_effect no_files 0 2 0 (0xAC ∷ [])))) one_entry
    ∙ ap (outcome one name) completing

reads_completed : answer_of (office two) (a (Asks (Text 0 2 Replacement)))
    ≡ record { reply = replies.Text (record { rev = 1; text = 0xE2 ∷ 0x82 ∷ 0xAC ∷ 0x41 ∷ [] }); documents = two }
reads_completed =
    ap (λ found. outcome two name (of_document found (λ h. replied (text_reply no_files h 0 2 Replacement)))) two_entries
    ∙ ap (λ r. outcome two name (replied r)) completed_text

splices_past_end : answer_of (office two) (a (Splice 1 5 0 (codes ""))) ≡ record { reply = replies.Refused OutOfRange; documents = two }
splices_past_end =
    ap (λ b. outcome two name (with_bytes b (λ ins. of_document (finite.get two name) (splice_effect no_files 1 5 0 ins)))) no_bytes
    ∙ ap (λ found. outcome two name (of_document found (splice_effect no_files 1 5 0 []))) two_entries
    ∙ ap (outcome two name) past_end

abbrev none : Names
none = finite.remove two name

closes : answer_of (office two) (a Close) ≡ record { reply = replies.Closed 1; documents = none }
closes = ap (λ found. outcome two name (of_document found closed)) two_entries

-- one step before the later ones
step : (o : Office) (c : Asked) (cs : List Asked) (reply : Reply) (documents : Names) (replies : List Reply)
    → answer_of o c ≡ record { reply = reply; documents = documents } → replies_to (record o { documents = documents }) cs ≡ replies
    → replies_to o (c ∷ cs) ≡ reply ∷ replies
step o c cs reply documents replies answers later =
    ap (λ (x : Outcome). x.reply ∷ replies_to (record o { documents = x.documents }) cs) answers ∙ ap (λ rs. reply ∷ rs) later

-- ---- the session from its last command backwards

from_closes : replies_to (office two) (drop 6 session) ≡ drop 6 session_replies
from_closes = step (office two) (a Close) [] (replies.Closed 1) none [] closes refl

from_past_end : replies_to (office two) (drop 5 session) ≡ drop 5 session_replies
from_past_end = step (office two) (a (Splice 1 5 0 (codes ""))) (drop 6 session) (replies.Refused OutOfRange) two (drop 6 session_replies) splices_past_end from_closes

from_reads_completed : replies_to (office two) (drop 4 session) ≡ drop 4 session_replies
from_reads_completed = step (office two) (a (Asks (Text 0 2 Replacement))) (drop 5 session) _ two (drop 5 session_replies) reads_completed from_past_end

from_splices : replies_to (office one) (drop 3 session) ≡ drop 3 session_replies
from_splices = step (office one) (a (Splice 0 2 0 (codes "rA=="))) (drop 4 session) _ two (drop 4 session_replies) splices from_reads_completed

from_lists_errors : replies_to (office one) (drop 2 session) ≡ drop 2 session_replies
from_lists_errors = step (office one) (a (Asks (Errors 0 10))) (drop 3 session) _ one (drop 3 session_replies) lists_errors from_splices

from_reads_truncated : replies_to (office one) (drop 1 session) ≡ drop 1 session_replies
from_reads_truncated = step (office one) (a (Asks (Text 0 2 Replacement))) (drop 2 session) _ one (drop 2 session_replies) reads_truncated from_lists_errors

pub session_worked : replies_to office_without_files session ≡ session_replies
session_worked = step (office nothing) (a (Open (codes "utf-8") (codes "4oJB") Sniff)) (drop 1 session) _ one (drop 1 session_replies) opens from_reads_truncated
