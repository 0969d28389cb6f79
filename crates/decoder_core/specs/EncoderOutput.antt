-- What a call puts into the output, against what is to be put.
use Rattle.std.specs.Prelude.{◌≡◌, ⊤, true, false, ℕ, Bool, List, ◌++◌, Result, Ok, Err, Vec}
use Rattle.std.specs.declared.alloc.Global.{Global}
use Rattle.decoder_core.specs.declared.fault.Unencodable.{Unencodable}
use Rattle.decoder_core.specs.declared.fault.PutFault.{PutFault, TheVariants.Unencodable as unencodable_here, TheVariants.OutOfMemory as no_memory_here}
use Rattle.decoder_core.specs.declared.fault.FromFault.{FromFault, TheVariants.Unencodable as unencodable, TheVariants.OutOfMemory as no_memory}
use Rattle.decoder_core.specs.EncoderSteps.{Put, behind, reference}

-- the bytes put so far, and how many more can be put before memory is asked for
pub record Written : Type 0 where
  pub bytes : List ℕ
  pub room : ℕ

-- an error at a code point: its reference is put, or it is the fault; or memory was refused
abbrev pub PutError : Bool → ℕ → List ℕ → Result ⊤ PutFault → List ℕ → Type 0
PutError html c old (Ok x) new = (html ≡ true) × (new ≡ old ++ reference c)
PutError html c old (Err (unencodable_here d)) new = (html ≡ false) × (d ≡ c)
PutError html c old (Err no_memory_here) new = ⊤

-- a code point's bytes and the state after it, or the code point of an error; or memory was refused
abbrev pub PutOne : {S : Type 0} → Result (Put S) ℕ → List ℕ → Result S PutFault → List ℕ → Type 0
PutOne wanted old (Ok next) new = behind old wanted ≡ Ok (record { bytes = new; state = next })
PutOne wanted old (Err (unencodable_here c)) new = wanted ≡ Err c
PutOne wanted old (Err no_memory_here) new = ⊤

-- a text's bytes and the state after them, or the first code point without bytes; or memory was refused
abbrev pub PutAll : {S : Type 0} → Result (Put S) Unencodable → List ℕ → Result S FromFault → List ℕ → Type 0
PutAll wanted old (Ok next) new = behind old wanted ≡ Ok (record { bytes = new; state = next })
PutAll wanted old (Err (unencodable e)) new = wanted ≡ Err e
PutAll wanted old (Err no_memory) new = ⊤

-- a fault at the code point of this number, as a fault of the text
abbrev pub fault_at : ℕ → PutFault → FromFault
fault_at index (unencodable_here c) = unencodable (record { index = index; code_point = c })
fault_at index no_memory_here = no_memory

-- an answer: the bytes and the state, or the first code point without bytes; a lack of memory can replace any
abbrev pub IsFrom : {S : Type 0} → Result (Put S) Unencodable → Result (Vec ℕ Global × S) FromFault → Type 0
IsFrom wanted (Ok (bytes, state)) = wanted ≡ Ok (record { bytes = bytes.items; state = state })
IsFrom wanted (Err (unencodable e)) = wanted ≡ Err e
IsFrom wanted (Err no_memory) = ⊤
