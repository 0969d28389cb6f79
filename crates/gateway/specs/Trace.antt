-- A trace: lines that are events, and what playing them prints.
use Rattle.std.specs.Prelude.{◌≡◌, ◌⊎◌, ℕ, zero, suc, ◌+◌, ◌<◌, ◌==◌, ◌&&◌, nat_lt, nat_le, Bool, true, false, List, [], ◌∷◌, ◌++◌, length, map, take, drop}
use Rattle.std.specs.Prelude.{codes, Option, Some, None, option_and_then, Result, Ok, Err, if◌then◌else◌}
use Rattle.std.specs.{Str.bytes_eq, Option.option_map, Fmt.decimal, Io.KnownBytes.Appends}
use Rattle.desk.specs.Effects.{base64_bytes}
use Rattle.devices.specs.{Devices.Reads, Reading.Ending, Reading.AtEnd, Reading.ReadFailed, Reading.GivenUp, Reading.BrokenOff, Reading.ReadSo, Reading.ReadUp}
use Rattle.connections.specs.declared.gateway.GateFault.{GateFault, TheVariants.BadNumber, TheVariants.AlreadyOpen, TheVariants.NotOpen}
use Rattle.connections.specs.{Lines.complete, Lines.unfinished, Traffic.Traffic, Events.Happening, Events.Opening, Events.Bringing, Events.Closing}
use Rattle.connections.specs.{Events.gate_fault, Clients.Numbered, Clients.number_of, Clients.OccurAll}
use Rattle.gateway.specs.declared.traces.fault.TraceFault.{TraceFault}
use Rattle.gateway.specs.declared.traces.fault.TraceFault.TheVariants.{BadLine, Read, Write, TooManyReads, OutOfMemory}

-- ---- the event on a line

-- the most bytes of a line that isn't skipped, its line feed left out
abbrev pub trace_limit : ℕ
trace_limit = 6291456

-- a line that begins with `#`
abbrev pub is_comment : List ℕ → Bool
is_comment [] = false
is_comment (b ∷ bs) = b == 35

-- an empty line, or a comment
abbrev pub is_skipped : List ℕ → Bool
is_skipped [] = true
is_skipped (b ∷ bs) = b == 35

-- what comes after a word at the line's start
abbrev pub after_word : List ℕ → List ℕ → Option (List ℕ)
after_word word line = if bytes_eq (take (length word) line) word then Some (drop (length word) line) else None

-- the number below a bound whose decimal digits these are
abbrev pub number_below : ℕ → List ℕ → Option ℕ
number_below zero text = None
number_below (suc n) text = if bytes_eq (decimal n) text then Some n else number_below n text

-- the number of a connection: 0 to 255 in decimal, without leading zeros
unfoldable pub number_in : List ℕ → Option ℕ
number_in text = number_below 256 text

-- the text before the first space, and the text after it
abbrev pub before_space : List ℕ → List ℕ
before_space [] = []
before_space (b ∷ bs) = if b == 32 then [] else b ∷ before_space bs

abbrev pub after_space : List ℕ → Option (List ℕ)
after_space [] = None
after_space (b ∷ bs) = if b == 32 then Some bs else after_space bs

-- the bytes of a base64 text that isn't empty
abbrev pub some_bytes : List ℕ → Option (List ℕ)
some_bytes [] = None
some_bytes (b ∷ bs) = base64_bytes (b ∷ bs)

-- a number, a space and base64
abbrev pub bringing : List ℕ → Option Happening
bringing words =
    option_and_then (λ text. option_and_then (λ c. option_map (Bringing c) (some_bytes text)) (number_in (before_space words))) (after_space words)

-- what comes after a word is read so; a line without the word otherwise
abbrev pub or_else : Option (List ℕ) → (List ℕ → Option Happening) → Option Happening → Option Happening
or_else (Some words) read otherwise = read words
or_else None read otherwise = otherwise

-- the event on a line: `open C`, `bytes C BASE64` or `close C`
abbrev pub event_on : List ℕ → Option Happening
event_on line =
    if nat_le (length line) trace_limit
    then or_else (after_word (codes "open ") line) (λ w. option_map Opening (number_in w))
    (or_else (after_word (codes "bytes ") line) bringing
    (or_else (after_word (codes "close ") line) (λ w. option_map Closing (number_in w)) None))
    else None

-- a line that isn't skipped and has no event
abbrev pub IsBad : List ℕ → Type 0
IsBad line = (is_skipped line ≡ false) × (event_on line ≡ None)

-- ---- what an event prints

abbrev pub gate_fault_name : GateFault → List ℕ
gate_fault_name BadNumber = codes "BadNumber"
gate_fault_name AlreadyOpen = codes "AlreadyOpen"
gate_fault_name NotOpen = codes "NotOpen"

-- a refusal: the connection's number, a space, `!`, the fault's name and a line feed
abbrev pub refusal_line : ℕ → GateFault → List ℕ
refusal_line c fault = decimal c ++ codes " !" ++ gate_fault_name fault ++ 10 ∷ []

-- a reply: the connection's number, a space and the reply line
abbrev pub printed : Numbered → List ℕ
printed r = decimal r.0 ++ 32 ∷ r.1

abbrev pub printed_all : List Numbered → List ℕ
printed_all [] = []
printed_all (r ∷ rs) = printed r ++ printed_all rs

-- what comes after each line feed, where that isn't empty
abbrev pub after_ends : List ℕ → List (List ℕ)
after_ends [] = []
after_ends (b ∷ bs) = if (b == 10) && nat_lt 0 (length bs) then bs ∷ after_ends bs else after_ends bs

-- The events of the gateway that an event of a trace stands for: one of bytes goes up to and with the first line feed, and the next one goes on with the rest.
abbrev pub parts : Happening → List Happening
parts (Opening c) = Opening c ∷ []
parts (Bringing c bytes) = Bringing c bytes ∷ map (Bringing c) (after_ends bytes)
parts (Closing c) = Closing c ∷ []

-- An event is refused, which is printed once, however many line feeds its bytes have; or all its replies are printed.
abbrev pub PrintsBy : Option GateFault → Traffic → Happening → List ℕ → Traffic → Type 0
PrintsBy (Some fault) old e out new = (out ≡ refusal_line (number_of e) fault) × (new ≡ old)
PrintsBy None old e out new = (replies : List Numbered) × OccurAll old (parts e) replies new × (out ≡ printed_all replies)

abbrev pub Prints : Traffic → Happening → List ℕ → Traffic → Type 0
Prints old e out new = PrintsBy (gate_fault old.lines e) old e out new

-- A prefix of what an event prints, but not all of it. Of its parts the first few have occurred, and all their replies but the last were printed whole.
abbrev pub PrintStopsBy : Option GateFault → Traffic → Happening → List ℕ → Traffic → Type 0
PrintStopsBy (Some fault) old e out new = (unsent : List ℕ) × (out ++ unsent ≡ refusal_line (number_of e) fault) × (0 < length unsent) × (new ≡ old)
PrintStopsBy None old e out new =
    (done left : List Happening) × (replies : List Numbered) × (last : Numbered) × (part unsent : List ℕ) × (parts e ≡ done ++ left)
    × OccurAll old done (replies ++ last ∷ []) new × (printed last ≡ part ++ unsent) × (0 < length unsent) × (out ≡ printed_all replies ++ part)

abbrev pub PrintStops : Traffic → Happening → List ℕ → Traffic → Type 0
PrintStops old e out new = PrintStopsBy (gate_fault old.lines e) old e out new

-- ---- lines

-- a line, by whether it is skipped
abbrev pub PrintsLine : Bool → List ℕ → Traffic → List ℕ → Traffic → Type 0
PrintsLine true line old out new = (out ≡ []) × (new ≡ old)
PrintsLine false line old out new = (e : Happening) × (event_on line ≡ Some e) × Prints old e out new

-- these lines one after another, each of which is skipped or has an event
abbrev pub PrintsAll : Traffic → List (List ℕ) → List ℕ → Traffic → Type 0
PrintsAll old [] out new = (out ≡ []) × (new ≡ old)
PrintsAll old (line ∷ lines) out new =
    (mid : Traffic) × (here later : List ℕ) × PrintsLine (is_skipped line) line old here mid × PrintsAll mid lines later new × (out ≡ here ++ later)

-- The lines of a text, where some bytes of the first have come before. The last may lack its line feed; where nothing comes after the last
-- line feed, it is empty, and skipped.
abbrev pub text_lines : List ℕ → List ℕ → List (List ℕ)
text_lines line bytes = complete line bytes ++ unfinished line bytes ∷ []

-- Line n was the first bad one, whatever follows of what may follow, and the lines before it were played. The first of the lines has the number `from`.
pub record StopsAtBad (n from : ℕ) (line bytes : List ℕ) (MayFollow : List ℕ → Type 0) (old new : Traffic) (before after : Option (List ℕ)) : Type 0 where
  pub first : List (List ℕ)
  pub number : n ≡ from + length first
  pub bad : (later : List ℕ) → MayFollow later → (last : List ℕ) × (more : List (List ℕ))
      × (text_lines line (bytes ++ later) ≡ first ++ last ∷ more) × IsBad last
  pub out : List ℕ
  pub appends : Appends before after out
  pub prints : PrintsAll old first out new

-- The first few lines were played, and printing the event of the next one stopped short.
pub record StopsInPrint (line bytes : List ℕ) (MayFollow : List ℕ → Type 0) (old new : Traffic) (before after : Option (List ℕ)) : Type 0 where
  pub first : List (List ℕ)
  pub last : List ℕ
  pub event : Happening
  pub cut : (later : List ℕ) → MayFollow later → (more : List (List ℕ)) × (text_lines line (bytes ++ later) ≡ first ++ last ∷ more)
  pub counts : is_skipped last ≡ false
  pub is : event_on last ≡ Some event
  pub mid : Traffic
  pub sent : List ℕ
  pub part : List ℕ
  pub appends : Appends before after (sent ++ part)
  pub prints : PrintsAll old first sent mid
  pub stops : PrintStops mid event part new

-- The first few lines were played, and memory ran out for the next one, which isn't skipped and may go on.
pub record StopsForMemory (line bytes : List ℕ) (old new : Traffic) (before after : Option (List ℕ)) : Type 0 where
  pub first : List (List ℕ)
  pub last : List ℕ
  pub more : List (List ℕ)
  pub cut : text_lines line bytes ≡ first ++ last ∷ more
  pub counts : is_skipped last ≡ false
  pub out : List ℕ
  pub appends : Appends before after out
  pub prints : PrintsAll old first out new

-- ---- a whole trace

-- these lines of a text were played
pub record PlaysLines (lines : List (List ℕ)) (old new : Traffic) (before after : Option (List ℕ)) : Type 0 where
  pub out : List ℕ
  pub appends : Appends before after out
  pub prints : PrintsAll old lines out new

-- what was read was played, by the answer, where a reader had `before` left and has `after`
abbrev pub TracesText : {A : Type 0} → Result A TraceFault → List ℕ → Option (List ℕ) → Traffic → Traffic → Option (List ℕ) → Option (List ℕ) → Type 0
TracesText (Ok x) read rest old new before after = PlaysLines (text_lines [] read) old new before after
TracesText (Err (BadLine n)) read rest old new before after = StopsAtBad n 1 [] read (λ later. rest ≡ Some later) old new before after
TracesText (Err Read) read rest old new before after = PlaysLines (complete [] read) old new before after
TracesText (Err Write) read rest old new before after = StopsInPrint [] read (λ later. rest ≡ Some later) old new before after
TracesText (Err TooManyReads) read rest old new before after = PlaysLines (complete [] read) old new before after
TracesText (Err OutOfMemory) read rest old new before after = StopsForMemory [] read old new before after

-- text was read, which is what the reader's reads returned, and played
abbrev pub Traces : {A : Type 0} → Result A TraceFault → Traffic → Traffic → Reads → Reads → Option (List ℕ) → Option (List ℕ) → Type 0
Traces r old new first last before after = ReadSo (λ read. TracesText r read last.left old new before after) first last

-- ---- the devices' numbers, by a trace's answer

-- how the reading ended: at the fault of a line before the end was reported, or behind it, where the line is the last
abbrev pub TraceEnded : {A : Type 0} → Result A TraceFault → Ending → Type 0
TraceEnded (Ok x) ending = ending ≡ AtEnd
TraceEnded (Err Read) ending = ending ≡ ReadFailed
TraceEnded (Err TooManyReads) ending = ending ≡ GivenUp
TraceEnded (Err fault) ending = (ending ≡ BrokenOff) ⊎ (ending ≡ AtEnd)

abbrev pub TraceReads : {A : Type 0} → Result A TraceFault → Reads → Reads → Type 0
TraceReads r old new = (ending : Ending) × TraceEnded r ending × ReadUp ending old new

-- how many of the writes failed
abbrev pub trace_write_failures : {A : Type 0} → Result A TraceFault → ℕ
trace_write_failures (Err Write) = 1
trace_write_failures r = 0
