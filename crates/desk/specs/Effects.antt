-- The effect of a command at the name that it has: its reply, and what becomes of the entry there.
use Rattle.std.specs.Prelude.{◌≡◌, ℕ, List, Vec, Option, Some, None, Result, Ok, Err}
use Rattle.std.specs.{Result.result_ok, declared.alloc.Global.Global}
use Rattle.base64.specs.{Engines.standard, GeneralPurpose.decode_of}
use Rattle.desk.specs.{Documents.Entry, Documents.reply_of, declared.fault.Fault.Fault}
use Rattle.desk.specs.declared.{fault.Fault.TheVariants.BadBase64, fault.Fault.TheVariants.NoDocument, fault.Fault.TheVariants.OutOfMemory, ops.Reply.Reply}

-- what becomes of the entry at a name
pub data Move : Type 0 where
  Stays : Move
  Puts : Entry → Move
  Goes : Move

-- a reply, and what becomes of the entry
pub record Effect : Type 0 where
  pub reply : Reply
  pub move : Move

-- a question is answered or refused
abbrev pub replied : Result Reply Fault → Effect
replied answer = record { reply = reply_of answer; move = Stays }

abbrev pub refused : Fault → Effect
refused fault = replied (Err fault)

-- an entry is put, with its reply, or refused
abbrev pub put : (Entry → Reply) → Result Entry Fault → Effect
put reply (Ok h) = record { reply = reply h; move = Puts h }
put reply (Err fault) = refused fault

-- what is asked of an open document
abbrev pub of_document : Option Entry → (Entry → Effect) → Effect
of_document None ask = refused NoDocument
of_document (Some h) ask = ask h

-- ---- bytes in base64

-- the bytes of a base64 text (RFC 4648, section 4), if it is what these bytes encode to
abbrev pub base64_bytes : List ℕ → Option (List ℕ)
base64_bytes text = result_ok (decode_of standard text)

-- what is asked with bytes
abbrev pub with_bytes : Option (List ℕ) → (List ℕ → Effect) → Effect
with_bytes None ask = refused BadBase64
with_bytes (Some bytes) ask = ask bytes

-- these are the bytes, or the text isn't base64; or memory ran out
abbrev pub Says : List ℕ → Result (Vec ℕ Global) Fault → Type 0
Says text (Ok bytes) = base64_bytes text ≡ Some bytes.items
Says text (Err OutOfMemory) = Unit {0}
Says text (Err fault) = (base64_bytes text ≡ None) × (fault ≡ BadBase64)
