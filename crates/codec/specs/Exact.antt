-- Proofs that a trait asks for; there is nothing to believe here. States of the one decoder that are equal are identical.
use Rattle.std.specs.Prelude.{◌≡◌, true}
use Rattle.std.proofs.Common.{ap, rules}
use Rattle.iso2022jp.specs.{Exact.iso_2022_jp_exact, Iso2022Jp.Iso2022Jp}
use Rattle.codec.specs.contracts.state.AnyStatePartialEq.TheImpl as any
use Rattle.codec.specs.declared.state.AnyState.{AnyState, TheVariants.Iso2022Jp as in_iso_2022_jp}

iso_2022_jp_state : (s : Iso2022Jp) (b : AnyState) → any.ghosts.eq (in_iso_2022_jp s) b ≡ true → in_iso_2022_jp s ≡ b
iso_2022_jp_state s (in_iso_2022_jp t) h = ap in_iso_2022_jp (iso_2022_jp_exact s t h)
iso_2022_jp_state s t h = Prim.search rules

pub any_exact : (a b : AnyState) → any.ghosts.eq a b ≡ true → a ≡ b
any_exact (in_iso_2022_jp s) b h = iso_2022_jp_state s b h
any_exact a b h = Prim.search rules
