-- What comes next of the text that a change is to leave, compared with what is decoded.
use Rattle.std.specs.Prelude.{◌≡◌, ◌≢◌, ℕ, ◌+◌, ◌≤◌, List, ◌∷◌, ◌++◌, map, flat_map, take, drop, length, Option, Some, None, Result, Ok, Err}
use Rattle.std.specs.Str.{chars, encode_utf8_all}
use Rattle.state_memo.specs.Decoding.{AnyDecoding, AnyState, replaced}
use Rattle.piece_rope.specs.declared.{ahead.Ahead.Ahead, wanted.Wanted.Wanted}
use Rattle.piece_rope.specs.declared.{change.Change.Change, fault.DocFault.DocFault, fault.DocFault.TheVariants.NotKept, fault.DocFault.TheVariants.OutOfMemory}
use Rattle.piece_rope.specs.{Chain.Chain, Chain.bytes_of, Chunks.written, Edits.named, Entry.Entry, Entry.texts_of, Parts.parts_of, Parts.text_in}

-- the text that a change is to leave
abbrev pub changed_text : Change → List ℕ
changed_text c = replaced (text_in (parts_of c.pieces.now.items c.tail.now)) c.i c.j (chars c.text.now)

-- a change of the text of these pieces, which has the range
pub record IsChange (ps : List Entry) (c : Change) : Type 0 where
  pub same : c.pieces.now.items ≡ ps
  pub order : c.i ≤ c.j
  pub within : c.j ≤ length (text_in (parts_of ps c.tail.now))

abbrev pub IsAsked : List Entry → Option Change → Type 0
IsAsked ps None = Unit {0}
IsAsked ps (Some c) = IsChange ps c

-- that text in chunks, as bytes
abbrev pub chunks : Wanted → List (List ℕ)
chunks w =
    map written (take w.from (parts_of w.pieces.now.items w.tail.now))
    ++ (w.front.now ∷ w.text.now ∷ w.back.now ∷ map written (drop (w.to + 1) (parts_of w.pieces.now.items w.tail.now)))

abbrev pub together : List (List ℕ) → List ℕ
together cs = flat_map (λ (c : List ℕ). c) cs

-- what is left of it
abbrev pub left_of : Ahead → List ℕ
left_of a = a.head.now ++ together (drop a.next (chunks a.wanted))

-- where something is wanted, these code points come next, and then what is left behind them
abbrev pub GoesOn : Option Ahead → List ℕ → Option Ahead → Type 0
GoesOn None xs None = Unit {0}
GoesOn (Some a) xs (Some b) = left_of a ≡ encode_utf8_all xs ++ left_of b
GoesOn a xs b = ⊥

-- others come next
abbrev pub Strays : Option Ahead → List ℕ → Type 0
Strays None xs = ⊥
Strays (Some a) xs = (more : List ℕ) → left_of a ≢ encode_utf8_all xs ++ more

-- the text that a change is to leave begins with these code points, and what is left of it is known, if anything
abbrev pub Awaits : Option Change → List ℕ → Option Ahead → Type 0
Awaits change xs None = Unit {0}
Awaits None xs (Some a) = ⊥
Awaits (Some c) xs (Some a) = encode_utf8_all (changed_text c) ≡ encode_utf8_all xs ++ left_of a

-- it begins with others
abbrev pub IsUnlike : Option Change → List ℕ → Type 0
IsUnlike None xs = ⊥
IsUnlike (Some c) xs = (more : List ℕ) → encode_utf8_all (changed_text c) ≢ encode_utf8_all xs ++ more

-- it is another text
abbrev pub IsAnother : Option Change → List ℕ → Type 0
IsAnother None text = ⊥
IsAnother (Some c) text = text ≢ changed_text c

-- pieces that some bytes begin with, entered one after another from a state, and what is said of their text
pub record Begins (d : AnyDecoding) (s : AnyState) (bytes : List ℕ) (Says : List ℕ → Type 0) : Type 0 where
  pub pieces : List Entry
  pub rest : List ℕ
  pub chain : Chain d s pieces
  pub bytes_are : bytes ≡ bytes_of pieces ++ rest
  pub says : Says (texts_of pieces)

-- a call succeeds, or is refused for lack of memory, or with `NotKept` for this reason
abbrev pub IsStop : Type 0 → DocFault → Type 0
IsStop reason NotKept = reason
IsStop reason OutOfMemory = Unit {0}
IsStop reason cause = ⊥

abbrev pub Stops : {A : Type 0} → Type 0 → Result A DocFault → Type 0
Stops reason (Ok x) = Unit {0}
Stops reason (Err cause) = IsStop reason cause

-- a call's answer names the cause that refuses it; if there is none, it may be `NotKept` for this reason, or a lack of memory
abbrev pub IsStopBehind : Option DocFault → Type 0 → DocFault → Type 0
IsStopBehind fault reason NotKept = (fault ≡ None) × reason
IsStopBehind fault reason cause = fault ≡ named cause

abbrev pub StopsBehind : {A : Type 0} → Option DocFault → Type 0 → Result A DocFault → Type 0
StopsBehind fault reason (Ok x) = fault ≡ None
StopsBehind fault reason (Err cause) = IsStopBehind fault reason cause
