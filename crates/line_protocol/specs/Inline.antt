-- The lines of replies: those that are stored inline, without memory, and in how many bytes; and those that take memory of their own.
use Rattle.std.specs.Prelude.{◌≡◌, ◌≤◌, ℕ, length, List, IfOk, Result, Vec}
use Rattle.std.specs.declared.alloc.Global.{Global}
use Rattle.serde_json.specs.Data.{Data}
use Rattle.line_protocol.specs.Replies.{line_of}

-- the most bytes of a line that is stored inline
abbrev pub inline_limit : ℕ
inline_limit = 256

-- the line of this object, which is short enough to be stored inline
abbrev pub IsShortLine : Data → List ℕ → Type 0
IsShortLine d line = (line ≡ line_of d) × (length line ≤ inline_limit)

-- the line of this object, unless memory ran out
abbrev pub IsLongLine : {E : Type 0} → Data → Result (Vec ℕ Global) E → Type 0
IsLongLine d result = IfOk result (λ line. line.items ≡ line_of d)
