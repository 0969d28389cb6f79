-- Plans by their parts.
use Rattle.std.proofs.Common.{drop, ℕ, ◌≡◌, ◌≢◌, refl, ap, ◌∙◌, Bool, true, false, List, [], ◌++◌, length, Option, Some, None, Result, if◌then◌else◌, ◌||◌}
use Rattle.position_map.proofs.Words.{Ok, Err, Files, has_files, OutputState, Document, decoded, text_of, ChangeFault, PosFault, OutOfRange as past_the_end}
use Rattle.position_map.proofs.Words.{SplitsCharacter as inside_a_character, Plan, Position, Range, TextUnit, Cut, cut_of, offset_of, planned, is_behind}
use Rattle.position_map.proofs.Words.{position_cause, replacing, splice_with, encoder_cause, IsPlanned, with_return, same_output, begins_with_escape}
use Rattle.std.specs.{Prelude.Vec, declared.alloc.Global.Global}
use Rattle.enc_names.specs.declared.encoding.Encoding.{Encoding, TheVariants.Iso2022Jp}
use Rattle.encoders.specs.{declared.fault.EncodeFault.EncodeFault, Encode.encoded, Encode.encoded_in, Encode.bytes_only, Encode.from_fault, Encode.IsEncoded}
use Rattle.encoders.specs.declared.fault.EncodeFault.TheVariants.{NoIndex, NoEncoder, Unencodable as unencodable, OutOfMemory as no_memory}
use Rattle.encoders.specs.declared.mode.EncodeMode.TheVariants.{Fatal}
use Rattle.encoders.specs.Steps.{encoded_iso, FromFault, unencodable_from, no_memory_from, escape_of, IsFrom}
use Rattle.position_map.specs.{declared.change_fault.ChangeFault.TheVariants.OutOfRange, declared.change_fault.ChangeFault.TheVariants.SplitsItem, Plan.put_in}
use Rattle.position_map.specs.Plan.{Inserted, bytes_in}
use Rattle.position_map.proofs.ItemCutting.{cut_some, cut_none}

-- the other encodings keep no state
in_other : (d : Document) (encoding : Encoding) (s r : OutputState) (right : ℕ) (text : List ℕ) → encoding ≢ Iso2022Jp
    → put_in d encoding s r right text ≡ encoded_in d.indexes encoding false text
in_other d Iso2022Jp s r right text other = absurd (other refl)
in_other d encoding s r right text other = refl

-- by what is found in a document's parts
module _ (p d : Document) (same : p ≡ d) (i j : ℕ) (new : Inserted) where
  pub left_none : None ≡ cut_of p i → replacing d new i j ≡ Err SplitsItem
  unfolding replacing
  left_none e = rw (cut_none d i (rw same at e)) refl

  pub right_none : (l : Cut) → Some l ≡ cut_of p i → None ≡ cut_of p j → replacing d new i j ≡ Err SplitsItem
  unfolding replacing
  right_none l e f = rw ((cut_some d i l (rw same at e)).0, cut_none d j (rw same at f)) refl

  pub both : (l r : Cut) → Some l ≡ cut_of p i → Some r ≡ cut_of p j
      → replacing d new i j ≡ splice_with l.at r.at i j (bytes_in d (decoded d).encoding l.output r.output r.at new)
  unfolding replacing
  both l r e f =
      let left = cut_some d i l (rw same at e) in
      let right = cut_some d j r (rw same at f) in
      rw (left.0, right.0, left.1, right.1) refl

-- the encoder's cause is the plan's
pub refused : (l r i j : ℕ) (wanted : Result (List ℕ) EncodeFault) (fault : EncodeFault) (plan : Result Plan ChangeFault) → plan ≡ splice_with l r i j wanted
    → IsEncoded wanted (Err fault) → IsPlanned plan (Err (encoder_cause fault))
refused l r i j wanted NoIndex plan e h = e ∙ ap (splice_with l r i j) h
refused l r i j wanted NoEncoder plan e h = e ∙ ap (splice_with l r i j) h
refused l r i j wanted (unencodable n) plan e h = e ∙ ap (splice_with l r i j) h
refused l r i j wanted no_memory plan e h = tt

-- with the escape after the text, from files that are those of the document
module _ (d : Document) (files : Files) (same : files ≡ d.indexes) (s r : OutputState) (at : ℕ) (text : List ℕ) where
  pub refused_iso : (fault : FromFault) → IsFrom (encoded_iso files s text false false) (Err fault)
      → IsEncoded (bytes_only (with_return r (drop at d.bytes) (encoded_iso d.indexes s text false false))) (Err (from_fault fault))
  refused_iso (unencodable_from e) h = rw (← same, h) refl
  refused_iso no_memory_from h = tt

  pub put_iso : (t : OutputState) (bytes : List ℕ) (equal escape : Bool) → encoded_iso files s text false false ≡ Ok (record { bytes = bytes; state = t })
      → equal ≡ same_output t r → (equal ≡ false → escape ≡ begins_with_escape (drop at d.bytes))
      → bytes_only (with_return r (drop at d.bytes) (encoded_iso d.indexes s text false false)) ≡ Ok (bytes ++ (if equal || escape then [] else escape_of r))
  put_iso t bytes true escape h e f = rw (← same, h, ← e) refl
  put_iso t bytes false escape h e f = rw (← same, h, ← e, f refl) refl

-- if the files are loaded
as_encoded : (files : Files) (encoding : Encoding) (cs : List ℕ) → has_files files encoding ≡ true
    → encoded files encoding Fatal cs ≡ encoded_in files encoding false cs
unfolding encoded
as_encoded files encoding cs there = rw there refl

pub other_put : (d : Document) (files : Files) (encoding : Encoding) (s r : OutputState) (right : ℕ) (text : List ℕ)
    (result : Result (Vec ℕ Global) EncodeFault)
    → files ≡ d.indexes → encoding ≡ (decoded d).encoding → has_files d.indexes (decoded d).encoding ≡ true → encoding ≢ Iso2022Jp
    → IsEncoded (encoded files encoding Fatal text) result → IsEncoded (put_in d (decoded d).encoding s r right text) result
other_put d files encoding s r right text result same in_force there other h =
    rw (← in_force, in_other d encoding s r right text other, ← as_encoded d.indexes encoding text (rw in_force there), ← same) h

-- ---- the ends of a range

-- as the parts of a document have it, so has the document
pub at_document : {p d : Document} (u : TextUnit) (at : Position) {r : Result ℕ PosFault} → p ≡ d → r ≡ offset_of (text_of p) u at
    → r ≡ offset_of (text_of d) u at
at_document u at same h = rw (← same) h

pub refused_end : (wanted : Result Plan ChangeFault) (fault : PosFault) → wanted ≡ Err (position_cause fault) → IsPlanned wanted (Err (position_cause fault))
refused_end wanted past_the_end h = h
refused_end wanted inside_a_character h = h

module _ (d : Document) (range : Option Range) (u : TextUnit) (new : Inserted) where
  pub whole_text : range ≡ None → planned d range u new ≡ replacing d new 0 (length (text_of d))
  unfolding planned
  whole_text e = rw e refl

  module _ (r : Range) (is : range ≡ Some r) where
    pub behind : is_behind r.start r.end ≡ true → planned d range u new ≡ Err OutOfRange
    unfolding planned
    behind e = rw (is, e) refl

    pub start_refused : (fault : PosFault) → is_behind r.start r.end ≡ false → Err fault ≡ offset_of (text_of d) u r.start
        → planned d range u new ≡ Err (position_cause fault)
    unfolding planned
    start_refused fault e f = rw (is, e, ← f) refl

    pub end_refused : (i : ℕ) (fault : PosFault) → is_behind r.start r.end ≡ false → Ok i ≡ offset_of (text_of d) u r.start
        → Err fault ≡ offset_of (text_of d) u r.end → planned d range u new ≡ Err (position_cause fault)
    unfolding planned
    end_refused i fault e f g = rw (is, e, ← f, ← g) refl

    pub over_ends : (i j : ℕ) → is_behind r.start r.end ≡ false → Ok i ≡ offset_of (text_of d) u r.start
        → Ok j ≡ offset_of (text_of d) u r.end → planned d range u new ≡ replacing d new i j
    unfolding planned
    over_ends i j e f g = rw (is, e, ← f, ← g) refl
