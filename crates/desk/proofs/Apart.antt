-- Documents are apart: what a desk answers for one depends on no other.
use Rattle.std.proofs.Common.{◌≡◌, ◌≢◌, ℕ, Bool, true, false, List, [], ◌∷◌, ◌++◌, if◌then◌else◌, refl, Option, bytes_eq}
use Rattle.desk.proofs.Prelude.{bytes_eq-Decides, get, LabelTable, Files, Exchange, Follows, NoneWanting, place_at, asks_of, replies_of, DocumentsAreApart, Ask}
use Rattle.desk.proofs.Prelude.{Asked, Office, Answers, effect, effect_of, Entry, Effect, OutOfMemory, Reply, Refused}
use Rattle.desk.proofs.{Moves.held_after, Moves.reply_is, Moves.held_is, Row.known}
use Rattle.desk.proofs.Rows as rows

-- the replies of one document alone
abbrev replay : Files → LabelTable → Option Entry → List (Ask × Option Bool) → List Reply
replay indexes labels found [] = []
replay indexes labels found (q ∷ qs) =
    let t = effect indexes labels (known q.1) found q.0 in
    t.reply ∷ replay indexes labels (held_after found t.move) qs

-- one exchange
module _ (d : List ℕ) (o p : Office) (c : Asked) (reply : Reply) (answers : Answers o c reply p) (ne : reply ≢ Refused OutOfMemory) where
  alone : Effect
  alone = effect o.indexes o.labels (known (place_at o c.ask)) (get o.documents d) c.ask

  effect_alone : c.doc ≡ d → effect_of o c ≡ alone
  unfolding alone
  effect_alone same = cc ((rows.row o.indexes o.labels c.ask).placed o (get o.documents d))

  one : (t : Bool) → bytes_eq c.doc d ≡ t → (rest : List Reply) (qs : List (Ask × Option Bool)) → rest ≡ replay o.indexes o.labels (get p.documents d) qs
      → (if t then reply ∷ [] else []) ++ rest ≡ replay o.indexes o.labels (get o.documents d) ((if t then (c.ask, place_at o c.ask) ∷ [] else []) ++ qs)
  unfolding alone
  one true e rest qs more = cc (effect_alone ((bytes_eq-Decides c.doc d).0 e), reply_is o p c reply answers ne, held_is o p c reply answers ne d)
  one false e rest qs more = cc (held_is o p c reply answers ne d)

-- the replies of a run are those of the document alone
replayed : (d : List ℕ) (o p : Office) (es : List Exchange) → Follows o es p → NoneWanting es
    → replies_of d es ≡ replay o.indexes o.labels (get o.documents d) (asks_of d es)
replayed d o p [] follows none = refl
replayed d o p (e ∷ es) follows none =
    let mid = follows.0 in
    let answers = follows.2 in
    let later : replies_of d es ≡ replay o.indexes o.labels (get mid.documents d) (asks_of d es) =
    cc (replayed d mid p es follows.3 none.1, answers.indexes, answers.labels) in
    rw follows.1 (one d o mid e.command e.reply answers none.0 (bytes_eq e.command.doc d) refl (replies_of d es) (asks_of d es) later)

pub law_documents_are_apart : DocumentsAreApart
law_documents_are_apart d o o2 p p2 es fs indexes labels held left right none_left none_right asks =
    cc (replayed d o o2 es left none_left, replayed d p p2 fs right none_right)
