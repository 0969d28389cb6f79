use Rattle.std.proofs.Common.{◌≡◌, ◌<◌, ◌*◌, ℕ, sym, subst, arith}
use Rattle.std.specs.Int.{bit_at}
use Rattle.state_memo.proofs.Fronts.{firsts-two, firsts-three, firsts-four}
use Rattle.state_memo.proofs.alike.firsts_of.Goals as goal

pub returns-in-2 : goal.returns-in-2
returns-in-2 c = subst (λ (n : ℕ). (k : ℕ) → k * n < 16 → bit_at 0x5555 (k * n) ≡ 1) (sym c.in-2.is) firsts-two

pub returns-in-3 : goal.returns-in-3
returns-in-3 c = subst (λ (n : ℕ). (k : ℕ) → k * n < 16 → bit_at 0x9249 (k * n) ≡ 1) (sym c.in-3.is) firsts-three

pub returns-in_default : goal.returns-in_default
returns-in_default c = subst (λ (n : ℕ). (k : ℕ) → k * n < 16 → bit_at 0x1111 (k * n) ≡ 1) (omega arith) firsts-four
