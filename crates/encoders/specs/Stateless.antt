-- Encoders that keep no state: the bytes of a code point are all that there is to say (Encoding Standard, "Encoders and decoders").
use Rattle.std.specs.Prelude.{⊤, ℕ, List, [], ◌∷◌, Option, Some, None, if◌then◌else◌}
use Rattle.decoder_core.specs.{Forms.is_ascii, declared.encoder.EncoderAnswer.TheVariants.Puts, declared.encoder.EncoderAnswer.TheVariants.Fails}
use Rattle.encoders.specs.Steps.{Turn, Table}

-- a turn at a code point with these bytes; without bytes it is an error
abbrev pub bytes_turn : ℕ → Option (List ℕ) → Turn ⊤
bytes_turn c (Some bytes) = record { state = tt; answer = Puts; bytes = bytes }
bytes_turn c None = record { state = tt; answer = Fails c; bytes = [] }

abbrev pub stateless : (ℕ → Option (List ℕ)) → Table ⊤
stateless bytes s c = bytes_turn c (bytes c)

abbrev pub one : ℕ → List ℕ
one a = a ∷ []

abbrev pub two : ℕ → ℕ → List ℕ
two a b = a ∷ b ∷ []

-- an ASCII code point is its byte
abbrev pub ascii_or : ℕ → Option (List ℕ) → Option (List ℕ)
ascii_or c other = if is_ascii c then Some (one c) else other
