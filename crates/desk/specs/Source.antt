-- The bytes of a document.
use Rattle.std.specs.Prelude.{ℕ, take, drop, Result}
use Rattle.piece_rope.specs.Edits.{source_fault}
use Rattle.desk.specs.{Documents.Entry, Documents.unless, declared.fault.Fault.Fault, declared.ops.Reply.Reply, declared.ops.Reply.TheVariants.Bytes}

-- the len bytes that begin at `at`
abbrev pub source_reply : Entry → ℕ → ℕ → Result Reply Fault
source_reply h at len = unless (source_fault h.bytes at len) (Bytes (record { rev = h.revision; bytes = take len (drop at h.bytes) }))
