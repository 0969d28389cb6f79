-- The row of the op `splice`.
use Rattle.std.proofs.Common.{◌≡◌, ℕ, List, length, refl, sym, ap, ◌∙◌, Some, None, Ok, Option}
use Rattle.desk.specs.Commands as commands
use Rattle.desk.proofs.Prelude.{LabelTable, Files, Document, splice_fault, DocFault, Entry, document_of, unless, Applied, with_bytes, base64_bytes}
use Rattle.desk.proofs.Prelude.{with_spliced, Err, Applies, named, fault_of, spliced_document}
use Rattle.desk.specs.Splice.{spliced, splice_leaves, splice_reply, splice_effect}
use Rattle.desk.proofs.Edits.{Goes, caused-splice, keeps-edited, answered-edited, continues-edited}
use Rattle.desk.proofs.{Logs.splice-leaves, Logs.within, Row.IsRow, Row.ContinuesBy, Row.decided-unless, Row.Keeps, Row.Answered, Row.by-bytes, Row.by-document}

-- a splice that was made, and one that is refused
pub splice_made : (d new : Document) (at del : ℕ) (ins : List ℕ) → splice_fault d.bytes at del ins ≡ None
    → new ≡ spliced_document d at del ins → Applies (spliced at del ins d) (Ok tt) new
splice_made d new at del ins fits is = rw (fits, is) refl

pub splice_refused : (d new : Document) (at del : ℕ) (ins : List ℕ) (cause : DocFault) → splice_fault d.bytes at del ins ≡ named cause
    → Applies (spliced at del ins d) (Err (fault_of cause)) new
splice_refused d new at del ins DocFault.OutOfMemory e = tt
splice_refused d new at del ins cause e = rw e refl

-- ---- the row

-- what an accepted splice leaves
left : (fault : Option DocFault) (x k : Applied (Unit {0})) → unless fault x ≡ Ok k → (fault ≡ None) × (x.document ≡ k.document)
left None x k e = let same : x ≡ k = cc in (refl, ap (λ (y : Applied (Unit {0})). y.document) same)
left (Some f) x k e = cc

module _ (indexes : Files) (labels : LabelTable) (rev at del : ℕ) (text : List ℕ) where
  goes : (h : Entry) (ins : List ℕ) → base64_bytes text ≡ Some ins → (x : Applied (Unit {0})) → spliced at del ins (document_of indexes h) ≡ Ok x
      → Goes indexes h (commands.Splice rev at del text) x (splice_leaves at del ins x.done (length h.bytes))
  goes h ins e x ok =
      let is = left (splice_fault h.bytes at del ins) _ x ok in record {
        setting = ap (λ (d : Document). d.setting) (sym is.1);
        bytes = ap (with_spliced h.bytes at del) e ∙ ap (λ (d : Document). d.bytes) is.1;
        leaves = rw (← is.1) (splice-leaves h.bytes at del ins (within h.bytes at del ins is.0));
      }

  continues : (h : Entry) (bytes : Option (List ℕ)) → base64_bytes text ≡ bytes
      → ContinuesBy indexes h (commands.Splice rev at del text) (with_bytes bytes (λ ins. splice_effect indexes rev at del ins h))
  continues h None e = refl
  continues h (Some ins) e =
      continues-edited indexes h rev (splice_leaves at del ins) splice_reply (λ x d r. refl) (spliced at del ins)
      (commands.Splice rev at del text) refl (goes h ins e)

  pub row : IsRow indexes labels (commands.Splice rev at del text)
  row = record {
    keeps = λ place found. by-bytes Keeps (base64_bytes text) _ (λ e. refl) (λ ins. by-document Keeps found _ (λ e. refl) (λ h.
        keeps-edited indexes h rev (splice_leaves at del ins) splice_reply (λ x d r. refl) (spliced at del ins)));
    answered = λ place found. by-bytes Answered (base64_bytes text) _ (λ e. cc) (λ ins. by-document Answered found _ (λ e. cc) (λ h.
        answered-edited indexes h rev (splice_leaves at del ins) splice_reply (λ x d r. refl) (spliced at del ins)
        (decided-unless (λ x. Unit {0}) (splice_fault h.bytes at del ins) _ (caused-splice h.bytes at del ins) tt)));
    continues = λ place h. continues h (base64_bytes text) refl;
    placed = λ o found. refl;
  }
