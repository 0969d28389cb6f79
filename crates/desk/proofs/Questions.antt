-- Why no answer to a question is OutOfMemory: a row of `decided` for each.
use Rattle.std.proofs.Common.{nat_lt}
use Rattle.desk.proofs.Prelude.{ℕ, ◌-◌, List, length, refl, nat_le, Some, None, Ok, Err, Option, Result, chars, LabelTable, lookup_in, Encoding, Files, Place}
use Rattle.desk.proofs.Prelude.{arith, has_files, EncodeFault, Document, text_of, kept_fault, text_fault, errors_fault, source_fault, lines_of, range_fault}
use Rattle.desk.proofs.Prelude.{number_fault, ChangeFault, Plan, TextUnit, Question, answer, Entry, document_of, patch_since, with_range, range_around}
use Rattle.desk.proofs.Prelude.{first_error, Fault, Reply, Encoded}
use Rattle.encoders.specs.declared.mode.EncodeMode.{EncodeMode}
use Rattle.piece_rope.specs.Document as pieces
use Rattle.desk.specs.Commands as commands
use Rattle.desk.specs.{Encode.bytes_reply, Encode.encode_reply_as, Plan.with_plan, Text.in_mode, declared.text_mode.TextMode.TextMode}
use Rattle.desk.{specs.declared.untouched.Patch.Patch, proofs.Change.Planless, proofs.Change.caused-cut, proofs.Change.planned-cause}
use Rattle.desk.proofs.Row.{Decided, IsOther, Caused, decided-if, decided-position, decided-unless}

-- ---- a document's faults

caused-text : (d : Document) (from to : ℕ) → Caused (text_fault d from to)
unfolding range_fault
caused-text d from to = λ e. grind arith

caused-source : (bytes : List ℕ) (at len : ℕ) → Caused (source_fault bytes at len)
unfolding source_fault
caused-source bytes at len = λ e. grind arith

caused-errors : (d : Document) (from : ℕ) → Caused (errors_fault d from)
unfolding number_fault
caused-errors d from = λ e. grind arith

-- ---- answers

decided-plan : (d : Document) (rev : ℕ) (text : List ℕ) (r : Result Plan ChangeFault) → Planless r → Decided IsOther (with_plan d rev text r)
decided-plan d rev text (Ok plan) ne = decided-unless IsOther (kept_fault d plan.at plan.del plan.ins plan.i plan.j) _ (caused-cut d plan) (λ e. cc)
decided-plan d rev text (Err ChangeFault.OutOfMemory) ne = absurd (ne refl)
decided-plan d rev text (Err fault) ne = tt

decided-in_mode : (mode : TextMode) (first : Option Place) (found : Result Reply Fault) → Decided IsOther found → Decided IsOther (in_mode mode first found)
decided-in_mode TextMode.Fatal (Some place) (Ok reply) p = tt
decided-in_mode mode first found p = p

decided-bytes : (rev : ℕ) (found : Result (List ℕ) EncodeFault) → Decided IsOther (bytes_reply rev found)
decided-bytes rev (Ok bytes) = λ e. cc
decided-bytes rev (Err EncodeFault.NoIndex) = tt
decided-bytes rev (Err cause) = tt

decided-encode : (indexes : Files) (h : Entry) (from to : ℕ) (label : Option Encoding) (mode : EncodeMode)
    → Decided IsOther (encode_reply_as indexes h from to label mode)
decided-encode indexes h from to None mode = tt
decided-encode indexes h from to (Some target) mode =
    let d = document_of indexes h in
    decided-if IsOther (has_files indexes target) _ _ (decided-unless IsOther (text_fault d from to) _ (caused-text d from to) (decided-bytes h.revision _)) tt

decided-patch : (h : Entry) (rev : ℕ) → Decided (λ p. Unit {0}) (patch_since h rev)
decided-patch h rev =
    let P : Patch → Type 0 = λ p. Unit {0} in
    decided-if P (nat_lt h.revision rev) _ _ tt (decided-if P (nat_le (h.revision - rev) (length h.log)) _ _ tt tt)

decided-since : (d : Document) (rev : ℕ) (unit : Option TextUnit) (patch : Result Patch Fault) → Decided (λ p. Unit {0}) patch
    → Decided IsOther (with_range d rev unit patch)
decided-since d rev None (Ok patch) p = λ e. cc
decided-since d rev (Some unit) (Ok patch) p = decided-position _ (range_around d unit patch) (λ range e. cc)
decided-since d rev unit (Err Fault.OutOfMemory) p = absurd p
decided-since d rev unit (Err fault) p = tt

-- ---- the table

module _ (indexes : Files) (labels : LabelTable) (h : Entry) where
  abbrev D : Document
  D = document_of indexes h

  pub decided : (q : Question) → Decided IsOther (answer indexes labels h q)
  decided (commands.Plan unit range text) = decided-plan D h.revision (chars text) _ (planned-cause D range unit (Encoded (chars text)))
  decided (commands.Text from to mode) =
      decided-in_mode mode (pieces.first_error D) _ (decided-unless IsOther (text_fault D from to) _ (caused-text D from to) (λ e. cc))
  decided (commands.Source at len) = decided-unless IsOther (source_fault h.bytes at len) _ (caused-source h.bytes at len) (λ e. cc)
  decided (commands.Encode from to label mode) = decided-encode indexes h from to (lookup_in labels label) mode
  decided (commands.Errors from max) = decided-unless IsOther (errors_fault D from) _ (caused-errors D from) (λ e. cc)
  decided (commands.Diagnostics start max unit) =
      decided-unless IsOther (errors_fault D (first_error D start)) _ (caused-errors D (first_error D start)) (λ e. cc)
  decided (commands.Lines from max) = decided-if IsOther (nat_le from (length (lines_of (text_of D)))) _ _ (λ e. cc) tt
  decided (commands.Position offset unit) = decided-position _ _ (λ p e. cc)
  decided (commands.Offset line character unit) = decided-position _ _ (λ n e. cc)
  decided (commands.Place unit value) = decided-position _ _ (λ n e. cc)
  decided (commands.Since rev unit) = decided-since D h.revision unit (patch_since h rev) (decided-patch h rev)
  decided commands.Stat = λ e. cc
