-- Encoders over a list of code points (Encoding Standard, "Encoders and decoders": "process a queue" and "process an item", and the error modes
-- "fatal" and "html").
use Rattle.std.specs.Prelude.{◌≡◌, ◌<◌, ℕ, zero, suc, ◌+◌, Bool, List, [], ◌∷◌, ◌++◌, Result, Ok, Err, if◌then◌else◌, decimal}
use Rattle.decoder_core.specs.declared.encoder.EncoderAnswer.{EncoderAnswer, TheVariants.Puts, TheVariants.Restores, TheVariants.Fails}
use Rattle.decoder_core.specs.declared.fault.Unencodable.{Unencodable}

-- what one turn of an encoder's handler does: the next state, its answer, and the bytes that it puts
pub record Turn (S : Type 0) : Type 0 where
  pub state : S
  pub answer : EncoderAnswer
  pub bytes : List ℕ

-- an encoder's handler: from a state and the code point that was read
abbrev pub Table : Type 0 → Type 0
Table S = S → ℕ → Turn S

-- an ASCII code point is put as its byte, and the state stays
abbrev pub PutsItself : {S : Type 0} → Table S → S → ℕ → Type 0
PutsItself table s b = (b < 0x80) × (table s b ≡ record { state = s; answer = Puts; bytes = b ∷ [] })

-- bytes, and the state after them
pub record Put (S : Type 0) : Type 0 where
  pub bytes : List ℕ
  pub state : S

-- what error mode "html" puts in place of a code point: "&#", the code point in decimal, and ";"
abbrev pub reference : ℕ → List ℕ
reference c = 0x26 ∷ 0x23 ∷ (decimal c ++ 0x3B ∷ [])

-- bytes before what is put later
abbrev pub behind : {S E : Type 0} → List ℕ → Result (Put S) E → Result (Put S) E
behind front (Ok put) = Ok (record { bytes = front ++ put.bytes; state = put.state })
behind front (Err e) = Err e

-- a turn, and the later ones where the code point is restored
abbrev pub answered : {S : Type 0} → Bool → EncoderAnswer → List ℕ → S → (S → Result (Put S) ℕ) → Result (Put S) ℕ
answered html Puts bytes next again = Ok (record { bytes = bytes; state = next })
answered html Restores bytes next again = behind bytes (again next)
answered html (Fails c) bytes next again = if html then Ok (record { bytes = reference c; state = next }) else Err c

-- at most n turns at one code point; mode "fatal" answers the code point of an error
abbrev pub taken : {S : Type 0} → Table S → Bool → ℕ → S → ℕ → Result (Put S) ℕ
taken table html zero s c = Err c
taken table html (suc n) s c = answered html (table s c).answer (table s c).bytes (table s c).state (λ next. taken table html n next c)

-- what is put for a code point, which is number `index`, and then for those after it
abbrev pub onward : {S : Type 0} → ℕ → Result (Put S) ℕ → (S → Result (Put S) Unencodable) → Result (Put S) Unencodable
onward index (Ok put) rest = behind put.bytes (rest put.state)
onward index (Err c) rest = Err (record { index = index; code_point = c })

-- the code points one after another, the first of which is number `index`; each has two turns, as none is restored twice
abbrev pub encoded_from : {S : Type 0} → Table S → Bool → ℕ → S → List ℕ → Result (Put S) Unencodable
encoded_from table html index s [] = Ok (record { bytes = []; state = s })
encoded_from table html index s (c ∷ cs) = onward index (taken table html 2 s c) (λ next. encoded_from table html (index + 1) next cs)
