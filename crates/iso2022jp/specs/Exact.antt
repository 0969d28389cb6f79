-- Proofs that a trait asks for; there is nothing to believe here. States of the ISO-2022-JP decoder that are equal are identical.
use Rattle.std.specs.Prelude.{◌≡◌, Bool, true, false, ◌&&◌}
use Rattle.std.proofs.Common.{refl, rules}
use Rattle.iso2022jp.specs.declared.{output.OutputState.OutputState, state.DecoderState.DecoderState}
use Rattle.iso2022jp.specs.contracts.output.OutputStatePartialEq.TheImpl as output
use Rattle.iso2022jp.specs.contracts.state.DecoderStatePartialEq.TheImpl as decoder
use Rattle.iso2022jp.specs.contracts.state.Iso2022JpStatePartialEq.TheImpl as whole
use Rattle.iso2022jp.specs.Iso2022Jp.{Iso2022Jp, values}

output_exact : (a b : OutputState) → output.ghosts.eq a b ≡ true → a ≡ b
output_exact a b h = Prim.search rules

decoder_exact : (a b : DecoderState) → decoder.ghosts.eq a b ≡ true → a ≡ b
decoder_exact a b h = Prim.search (rules, output_exact)

by_values : (x y z : Bool) {a b : DecoderState} {c d : OutputState} {e f : Bool}
    → (x ≡ true → a ≡ b) → (y ≡ true → c ≡ d) → (z ≡ true → e ≡ f)
    → (x && (y && z)) ≡ true → values a c e ≡ values b d f
by_values true true true p q r h = let k = p refl in let l = q refl in let m = r refl in Prim.cc
by_values true true false p q r h = Prim.cc
by_values true false z p q r h = Prim.cc
by_values false y z p q r h = Prim.cc

pub iso_2022_jp_exact : (s t : Iso2022Jp) → whole.ghosts.eq s t ≡ true → s ≡ t
iso_2022_jp_exact s t =
    by_values _ _ _ (decoder_exact s.state t.state) (output_exact s.output t.output) (λ h. Prim.search rules)
