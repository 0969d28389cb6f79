-- The edits that can be taken back, and the pieces before them.
use Rattle.std.specs.Prelude.{◌≡◌, ℕ, ◌+◌, ◌≤◌, List, [], ◌∷◌, ◌++◌, take, drop, length, Vec, Option, Some, None}
use Rattle.std.specs.declared.alloc.Global.{Global}
use Rattle.enc_names.specs.declared.setting.Setting.{Setting}
use Rattle.index_loader.specs.Files.{Files}
use Rattle.state_memo.specs.declared.outcome.Outcome.{Outcome}
use Rattle.sum_tree.specs.Listed.{Listed}
use Rattle.piece_rope.specs.declared.edit.PreparedEdit.{PreparedEdit}
use Rattle.piece_rope.specs.{declared.log.LoggedEdit.LoggedEdit, Chain.bytes_of, Edit.edited, Entry.Entry, Kept.IsKept, Sizes.CanJoin}

-- the pieces before an edit, by those after it
abbrev pub before_edit : List Entry → LoggedEdit → List Entry
before_edit ps e = take e.first ps ++ (e.taken.items ++ drop (e.first + e.put) ps)

-- the pieces before all edits of a log, the oldest of which is the first
abbrev pub before_all : List Entry → List LoggedEdit → List Entry
before_all ps [] = ps
before_all ps (e ∷ es) = before_edit (before_all ps es) e

-- what the end of the bytes gave before them
abbrev pub tail_before : Outcome → List LoggedEdit → Outcome
tail_before tail [] = tail
tail_before tail (e ∷ es) = e.tail

-- an edit can be undone if there is room for `room` pieces
pub record GoesBack (room : ℕ) (ps : List Entry) (e : LoggedEdit) : Type 0 where
  pub within : e.first + e.put ≤ length ps
  pub room_is : length (before_edit ps e) ≤ room
  pub join : CanJoin (before_edit ps e)

-- so can each edit of a log, one after another from the last
abbrev pub GoBack : ℕ → List Entry → List LoggedEdit → Type 0
GoBack room ps [] = Unit {0}
GoBack room ps (e ∷ es) = GoBack room ps es × GoesBack room (before_all ps es) e

-- the number of pieces that have room
abbrev pub room_of : Listed Entry → ℕ
room_of ps = length ps.items + ps.spare

-- an edit of pieces that is taken back by this entry
pub record TakesBack (ps : List Entry) (tail : Outcome) (edit : PreparedEdit) (e : LoggedEdit) : Type 0 where
  pub within : e.first + e.put ≤ length (edited ps edit)
  pub pieces : before_edit (edited ps edit) e ≡ ps
  pub tail_is : e.tail ≡ tail

-- the log has one more entry, for this edit, if there is a log
abbrev pub Logs : List Entry → Outcome → PreparedEdit → Option (Vec LoggedEdit Global) → Option (Vec LoggedEdit Global) → Type 0
Logs ps tail edit None None = Unit {0}
Logs ps tail edit (Some old) (Some new) = (e : LoggedEdit) × (new.items ≡ old.items ++ e ∷ []) × TakesBack ps tail edit e
Logs ps tail edit old new = ⊥

-- the log has the same entries
abbrev pub IsSameLog : Option (Vec LoggedEdit Global) → Option (Vec LoggedEdit Global) → Type 0
IsSameLog None None = Unit {0}
IsSameLog (Some old) (Some new) = new.items ≡ old.items
IsSameLog old new = ⊥

-- the bytes before the edits of a log
abbrev pub earlier_of : List Entry → Option (Vec LoggedEdit Global) → Option (List ℕ)
earlier_of ps None = None
earlier_of ps (Some log) = Some (bytes_of (before_all ps log.items))

-- taking all edits of a log back leaves what a document keeps
pub record Returns (files : Files) (setting : Setting) (ps : Listed Entry) (tail : Outcome) (es : List LoggedEdit) : Type 0 where
  pub kept : IsKept files setting (before_all ps.items es) (tail_before tail es)
  pub steps : GoBack (room_of ps) ps.items es

abbrev pub CanReturn : Files → Setting → Listed Entry → Outcome → Option (Vec LoggedEdit Global) → Type 0
CanReturn files setting ps tail None = Unit {0}
CanReturn files setting ps tail (Some log) = Returns files setting ps tail log.items

-- what a document keeps now, and what it can come back to
pub record IsHeld (files : Files) (setting : Setting) (ps : Listed Entry) (tail : Outcome) (log : Option (Vec LoggedEdit Global)) : Type 0 where
  pub kept : IsKept files setting ps.items tail
  pub back : CanReturn files setting ps tail log
