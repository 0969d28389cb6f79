-- What was written of documents so far.
use Rattle.std.proofs.Common.{◌≡◌, ℕ, zero, suc, ◌+◌, ◌<◌, ◌≤◌, true, List, [], ◌∷◌, ◌++◌, length, map, take, drop, slice_get, Option, Some, Result, Ok}
use Rattle.std.proofs.Common.{Err, refl, sym, ap, ◌∙◌, arith, append_assoc, append-nil, length-take, length-drop, take_all}
use Rattle.std.proofs.{Math.Seq.take-add, KnownBytes.Appends-trans, lemmas.List.map-append, lemmas.List.Folds.concat-append}
use Rattle.std.specs.{Io.KnownBytes.Appends, List.concat, Str.is_utf8}
use Rattle.base64.specs.GeneralPurpose.{IsBytes}
use Rattle.desk.specs.{Desk.Office, Documents.Entry, Held.IsAdoptable}
use Rattle.enc_names.specs.declared.setting.Setting.{Setting}
use Rattle.records.specs.Compaction.{AreAdoptable, AreParts, IsOfBytes, IsOfDocument, IsOfDocuments, Puts, adopt_words, lined, most_of_part, part_words}
use Rattle.records.{specs.declared.documents.CompactFault.CompactFault, proofs.Compaction.lined-append}

-- ---- parts

-- the bytes before `at` were written
pub record PartsSoFar (bytes : List ℕ) (at : ℕ) (x y : Option (List ℕ)) : Type 0 where
  pub parts : List (List ℕ)
  pub are : AreParts parts
  pub joined : concat parts ≡ take at bytes
  pub written : Appends x y (lined (map part_words parts))

are-append : (parts : List (List ℕ)) (part : List ℕ) → AreParts parts → 0 < length part → length part ≤ most_of_part → IsBytes part
    → AreParts (parts ++ part ∷ [])
are-append [] part are some few bytes = (some, few, bytes, tt)
are-append (x ∷ parts) part are some few bytes = (are.0, are.1, are.2, are-append parts part are.3 some few bytes)

pub more_parts : (bytes part : List ℕ) (at : ℕ) (x y z : Option (List ℕ)) → PartsSoFar bytes at x y → at < length bytes
    → part ≡ take most_of_part (drop at bytes) → IsBytes part
    → Puts {A = Unit {0}} (Ok tt) (λ text. text ≡ lined (part_words part ∷ [])) y z → PartsSoFar bytes (at + most_of_part) x z
more_parts bytes part at x y z so small is are_bytes puts =
    let long = ap length is ∙ length-take most_of_part (drop at bytes) in
    let left = length-drop at bytes in record {
      parts = so.parts ++ part ∷ [];
      are = are-append so.parts part so.are (omega (arith, long, left, small)) (omega (arith, long, left)) are_bytes;
      joined = rw (concat-append so.parts (part ∷ []), so.joined, append-nil part, is) (sym (take-add at most_of_part bytes));
      written = rw (map-append part_words so.parts (part ∷ []), lined-append (map part_words so.parts) (part_words part ∷ []), ← puts.2)
          (Appends-trans x y z (lined (map part_words so.parts)) puts.0 so.written puts.1);
    }

-- ---- a document

pub with_adoption : {A : Type 0} (r : Result A CompactFault) (d : List ℕ × Entry) (name : List ℕ) (setting : Setting) (revision : ℕ) (x y z : Option (List ℕ))
    → Puts {A = Unit {0}} (Ok tt) (IsOfBytes d.1.bytes) x y → IsBytes name → name ≡ d.0 → setting ≡ d.1.setting → revision ≡ d.1.revision
    → Puts r (λ text. text ≡ lined (adopt_words name setting revision ∷ [])) y z → Puts r (IsOfDocument d) x z
with_adoption (Ok u) d name setting revision x y z parts bytes n s v puts = (
  parts.0 ++ puts.0,
  Appends-trans x y z parts.0 puts.0 parts.1 puts.1,
  record { front = parts.0; bytes = parts.2; name = rw n at bytes; is = rw (puts.2, n, s, v) },
)
with_adoption (Err f) d name setting revision x y z parts bytes n s v puts = (parts.0 ++ puts.0, Appends-trans x y z parts.0 puts.0 parts.1 puts.1)

-- something more was written, and then the device failed or memory ran out
pub failed_behind : (A B : Type 0) (fault : CompactFault) (Is Was : List ℕ → Type 0) (x y z : Option (List ℕ)) (text : List ℕ)
    → Appends x y text → Puts {A = A} (Err fault) Is y z → Puts {A = B} (Err fault) Was x z
failed_behind A B fault Is Was x y z text written puts = (text ++ puts.0, Appends-trans x y z text puts.0 written puts.1)

-- ---- documents

-- the first n of these documents were written
pub record DocumentsSoFar (o : Office) (ds : List (List ℕ × Entry)) (n : ℕ) (x y : Option (List ℕ)) : Type 0 where
  pub text : List ℕ
  pub written : Appends x y text
  pub are : IsOfDocuments (take n ds) text
  pub each : AreAdoptable o (take n ds)

documents-append : (ds : List (List ℕ × Entry)) (d : List ℕ × Entry) (a b : List ℕ) → IsOfDocuments ds a → IsOfDocument d b
    → IsOfDocuments (ds ++ d ∷ []) (a ++ b)
documents-append [] d a b are is = (b, [], ap (λ l. l ++ b) are ∙ sym (append-nil b), is, refl)
documents-append (x ∷ ds) d a b are is = (are.0, are.1 ++ b, ap (λ l. l ++ b) are.2 ∙ append_assoc are.0 are.1 b, are.3, documents-append ds d are.1 b are.4 is)

adoptable-append : (o : Office) (ds : List (List ℕ × Entry)) (d : List ℕ × Entry) → AreAdoptable o ds → IsAdoptable o.indexes d.1
    → is_utf8 d.0 ≡ true → AreAdoptable o (ds ++ d ∷ [])
adoptable-append o [] d are could text = (could, text, tt)
adoptable-append o (x ∷ ds) d are could text = (are.0, are.1, adoptable-append o ds d are.2 could text)

next_taken : (ds : List (List ℕ × Entry)) (n : ℕ) (d : List ℕ × Entry) → slice_get ds n ≡ Some d → take (n + 1) ds ≡ take n ds ++ d ∷ []
next_taken [] n d is = cc
next_taken (x ∷ ds) zero d is = cc
next_taken (x ∷ ds) (suc n) d is =
    let further : suc n + 1 ≡ suc (n + 1) = omega arith in rw further (ap (λ l. x ∷ l) (next_taken ds n d is))

pub more_documents : (o : Office) (ds : List (List ℕ × Entry)) (n : ℕ) (d : List ℕ × Entry) (x y z : Option (List ℕ))
    → DocumentsSoFar o ds n x y → slice_get ds n ≡ Some d
    → IsAdoptable o.indexes d.1 → is_utf8 d.0 ≡ true → Puts {A = Unit {0}} (Ok tt) (IsOfDocument d) y z → DocumentsSoFar o ds (n + 1) x z
more_documents o ds n d x y z so is could utf8 puts =
    let next = next_taken ds n d is in record {
      text = so.text ++ puts.0;
      written = Appends-trans x y z so.text puts.0 so.written puts.1;
      are = rw next (documents-append (take n ds) d so.text puts.0 so.are puts.2);
      each = rw next (adoptable-append o (take n ds) d so.each could utf8);
    }

pub all_documents : (o : Office) (ds : List (List ℕ × Entry)) (n : ℕ) (x y : Option (List ℕ)) → DocumentsSoFar o ds n x y → length ds ≤ n
    → Puts {A = Unit {0}} (Ok tt) (IsOfDocuments ds) x y × AreAdoptable o ds
all_documents o ds n x y so end =
    let all = take_all n ds end in ((so.text, so.written, rw all at so.are), rw all at so.each)
