-- What is known of a client's first bytes, and what is passed on of those to come. Nothing here has to be believed.
use Rattle.std.specs.Prelude.{◌≡◌, ℕ, zero, suc, ◌==◌, ◌||◌, not, Bool, true, false, if◌then◌else◌, List, [], ◌∷◌, ◌++◌, drop}
use Rattle.serving.specs.Admitting.{admitted, begins_object, begins_request, if_first, is_blank}
use Rattle.serving.specs.declared.access.Access.{Access}
use Rattle.serving.specs.declared.first_line.FirstLine.{FirstLine}
use Rattle.serving.specs.declared.first_line.Progress.{Progress, TheVariants.Begun, TheVariants.Right, TheVariants.Wrong}
use Rattle.serving.specs.declared.check.Check.{Check, TheVariants.Passed, TheVariants.Failed, TheVariants.NoRequest, TheVariants.Object, TheVariants.Line}

-- whether the next byte is another one than is wanted
abbrev pub is_other : ℕ → List ℕ → Bool
is_other b [] = true
is_other b (w ∷ wanted) = not (b == w)

abbrev pub rest_of : List ℕ → List ℕ
rest_of [] = []
rest_of (w ∷ wanted) = wanted

abbrev pub is_none : List ℕ → Bool
is_none [] = true
is_none (w ∷ wanted) = false

-- what is passed on behind the part of a line: these bytes of it are still wanted, one before differs or not, and it may have so many more
abbrev pub line_left : List ℕ → Bool → ℕ → List ℕ → List ℕ
line_left wanted differs room [] = []
line_left wanted differs zero (b ∷ bytes) = if b == 10 then (if is_none wanted then (if differs then [] else bytes) else []) else []
line_left wanted differs (suc room) (b ∷ bytes) =
    if b == 10 then (if is_none wanted then (if differs then [] else bytes) else [])
    else (if is_blank b then line_left wanted differs room bytes
    else line_left (rest_of wanted) (differs || is_other b wanted) room bytes)

abbrev pub left_of : FirstLine → List ℕ → List ℕ
left_of line bytes = line_left (drop line.at line.wanted) line.differs line.room bytes

-- what is passed on of the bytes to come
abbrev pub left_by : Progress → List ℕ → List ℕ
left_by (Begun line) bytes = left_of line bytes
left_by Right bytes = bytes
left_by Wrong bytes = []

abbrev pub passed : Check → List ℕ → List ℕ
passed Passed bytes = bytes
passed Failed bytes = []
passed NoRequest bytes = if_first (λ b. not (begins_request b)) bytes
passed Object bytes = if_first begins_object bytes
passed (Line line) bytes = left_of line bytes

-- What is known is right: whatever comes after the bytes that came, it is passed on as is said here.
abbrev pub IsKnown : Access → Check → List ℕ → Type 0
IsKnown access check seen = (more : List ℕ) → admitted access (seen ++ more) ≡ admitted access seen ++ passed check more
