-- Proofs that a trait asks for; there is nothing to believe here. The decoders of one byte a character hold nothing between two bytes.
use Rattle.std.specs.Prelude.{ℕ, Option}
use Rattle.std.proofs.Common.{lit≤}
use Rattle.decoder_core.specs.{Holding.Holding, Holding.gives_at_byte, Holding.finishes_at_end, SingleByte.single_byte, XUserDefined.x_user_defined}

abbrev pub single_byte_holding : (index : ℕ → Option ℕ) → Holding (single_byte index)
single_byte_holding index = record {
  bytes = λ _. 0;
  few = λ _. lit≤ tt;
  at_byte = λ s b. gives_at_byte _ 0 s _ _ (lit≤ tt) (lit≤ tt);
  at_end = λ s. finishes_at_end _ 0 s (lit≤ tt);
}

abbrev pub x_user_defined_holding : Holding x_user_defined
x_user_defined_holding = record {
  bytes = λ _. 0;
  few = λ _. lit≤ tt;
  at_byte = λ s b. gives_at_byte _ 0 s _ _ (lit≤ tt) (lit≤ tt);
  at_end = λ s. finishes_at_end _ 0 s (lit≤ tt);
}
