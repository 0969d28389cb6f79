-- Which bytes of a client are passed on to the sessions, by what it has to send first.
use Rattle.std.specs.Prelude.{ℕ, ◌==◌, nat_le, nat_lt, ◌&&◌, ◌||◌, not, Bool, true, false, if◌then◌else◌}
use Rattle.std.specs.Prelude.{List, [], ◌∷◌, length}
use Rattle.connections.specs.Lines.{before_end, has_end}
use Rattle.serving.specs.declared.access.Access.{Access, TheVariants.Any, TheVariants.NoRequest, TheVariants.Object, TheVariants.Line}
use Rattle.serving.specs.declared.first_line.TheConstants.{FIRST_LINE}

-- ---- first bytes

-- a left brace
abbrev pub begins_object : ℕ → Bool
begins_object b = b == 123

-- A capital letter, with which a request of HTTP begins, or a control character other than tab, line feed and carriage return, with which one
-- of TLS does.
abbrev pub begins_request : ℕ → Bool
begins_request b = (nat_le 65 b && nat_le b 90) || (nat_lt b 32 && not ((b == 9) || ((b == 10) || (b == 13))))

-- all bytes, if the first one is right
abbrev pub if_first : (ℕ → Bool) → List ℕ → List ℕ
if_first is_right [] = []
if_first is_right (b ∷ bytes) = if is_right b then b ∷ bytes else []

-- ---- first lines

-- white space of JSON within a line
abbrev pub is_blank : ℕ → Bool
is_blank b = (b == 32) || ((b == 9) || (b == 13))

abbrev pub without_blanks : List ℕ → List ℕ
without_blanks [] = []
without_blanks (b ∷ bytes) = if is_blank b then without_blanks bytes else b ∷ without_blanks bytes

-- two lists of bytes are the same
abbrev pub is_same : List ℕ → List ℕ → Bool
is_same [] [] = true
is_same [] (w ∷ wanted) = false
is_same (b ∷ bytes) [] = false
is_same (b ∷ bytes) (w ∷ wanted) = (b == w) && is_same bytes wanted

-- the bytes after the first line feed
abbrev pub behind_end : List ℕ → List ℕ
behind_end [] = []
behind_end (b ∷ bytes) = if b == 10 then bytes else behind_end bytes

-- The line lets its client in: it is the line that is wanted, all of it, but for white space; and it is short.
abbrev pub lets_in : List ℕ → ℕ → List ℕ → Bool
lets_in wanted most line = nat_le (length line) most && is_same (without_blanks line) wanted

-- the bytes after the first line, if that lets in
abbrev pub behind_line : List ℕ → ℕ → List ℕ → List ℕ
behind_line wanted most bytes = if has_end bytes && lets_in wanted most (before_end bytes) then behind_end bytes else []

-- ---- what is passed on

-- of the bytes of a client those that the sessions get
abbrev pub admitted : Access → List ℕ → List ℕ
admitted Any bytes = bytes
admitted NoRequest bytes = if_first (λ b. not (begins_request b)) bytes
admitted Object bytes = if_first begins_object bytes
admitted (Line wanted) bytes = behind_line wanted FIRST_LINE bytes
