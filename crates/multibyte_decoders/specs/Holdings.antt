-- Proofs that a trait asks for; there is nothing to believe here. The states of each decoder here hold at most three bytes, and its turns keep to that.
use Rattle.std.specs.Prelude.{ℕ, ◌≤◌, Option, Some, None}
use Rattle.std.proofs.Common.{arith, rules}
use Rattle.decoder_core.specs.Holding.{AtByte, AtEnd, Holding, turns_at_end}
use Rattle.multibyte_decoders.specs.declared.pairs.PairState.{PairState}
use Rattle.multibyte_decoders.specs.declared.{pairs.PairState.TheVariants.Idle, pairs.PairState.TheVariants.Lead, euc_jp.EucJpState.EucJpState}
use Rattle.multibyte_decoders.specs.declared.euc_jp.EucJpState.TheVariants.{Idle as euc_jp_idle, Lead as euc_jp_lead, Jis0212Lead}
use Rattle.multibyte_decoders.specs.declared.gb18030.Gb18030State.{Gb18030State}
use Rattle.multibyte_decoders.specs.declared.gb18030.Gb18030State.TheVariants.{Idle as gb18030_idle, First, Second, Third}
use Rattle.multibyte_decoders.specs.{Holding.turns_at_byte, Pairs.PairRule, Pairs.pair_decoder, EucJp.euc_jp, Gb18030.gb18030}

-- the number of bytes that a state holds
abbrev pub pair_bytes : PairState → ℕ
pair_bytes Idle = 0
pair_bytes (Lead lead) = 1

abbrev pub euc_jp_bytes : EucJpState → ℕ
euc_jp_bytes euc_jp_idle = 0
euc_jp_bytes (euc_jp_lead lead) = 1
euc_jp_bytes (Jis0212Lead lead) = 2

abbrev pub gb18030_bytes : Gb18030State → ℕ
gb18030_bytes gb18030_idle = 0
gb18030_bytes (First first) = 1
gb18030_bytes (Second first second) = 2
gb18030_bytes (Third first second third) = 3

pub pair_few : (s : PairState) → pair_bytes s ≤ 3
pair_few Idle = Prim.omega arith
pair_few (Lead lead) = Prim.omega arith

pub euc_jp_few : (s : EucJpState) → euc_jp_bytes s ≤ 3
euc_jp_few euc_jp_idle = Prim.omega arith
euc_jp_few (euc_jp_lead lead) = Prim.omega arith
euc_jp_few (Jis0212Lead lead) = Prim.omega arith

pub gb18030_few : (s : Gb18030State) → gb18030_bytes s ≤ 3
gb18030_few gb18030_idle = Prim.omega arith
gb18030_few (First first) = Prim.omega arith
gb18030_few (Second first second) = Prim.omega arith
gb18030_few (Third first second third) = Prim.omega arith

-- the decoders of single bytes and pairs
pub pair_byte : (rule : PairRule) (index : ℕ → Option ℕ) (s : PairState) (b : ℕ) → AtByte pair_bytes (pair_bytes s) (pair_decoder rule index s (Some b))
pair_byte rule index Idle b = Prim.search (rules, turns_at_byte)
pair_byte rule index (Lead lead) b = Prim.search (rules, turns_at_byte)

pub pair_end : (rule : PairRule) (index : ℕ → Option ℕ) (s : PairState) → AtEnd pair_bytes (pair_bytes s) (pair_decoder rule index s None)
pair_end rule index Idle = Prim.search (rules, turns_at_end)
pair_end rule index (Lead lead) = Prim.search (rules, turns_at_end)

abbrev pub pair_holding : (rule : PairRule) (index : ℕ → Option ℕ) → Holding (pair_decoder rule index)
pair_holding rule index = record {
  bytes = pair_bytes;
  few = pair_few;
  at_byte = pair_byte rule index;
  at_end = pair_end rule index;
}

pub euc_jp_byte : (jis0208 jis0212 : ℕ → Option ℕ) (s : EucJpState) (b : ℕ) → AtByte euc_jp_bytes (euc_jp_bytes s) (euc_jp jis0208 jis0212 s (Some b))
euc_jp_byte jis0208 jis0212 euc_jp_idle b = Prim.search (rules, turns_at_byte)
euc_jp_byte jis0208 jis0212 (euc_jp_lead lead) b = Prim.search (rules, turns_at_byte)
euc_jp_byte jis0208 jis0212 (Jis0212Lead lead) b = Prim.search (rules, turns_at_byte)

pub euc_jp_end : (jis0208 jis0212 : ℕ → Option ℕ) (s : EucJpState) → AtEnd euc_jp_bytes (euc_jp_bytes s) (euc_jp jis0208 jis0212 s None)
euc_jp_end jis0208 jis0212 euc_jp_idle = Prim.search (rules, turns_at_end)
euc_jp_end jis0208 jis0212 (euc_jp_lead lead) = Prim.search (rules, turns_at_end)
euc_jp_end jis0208 jis0212 (Jis0212Lead lead) = Prim.search (rules, turns_at_end)

abbrev pub euc_jp_holding : (jis0208 jis0212 : ℕ → Option ℕ) → Holding (euc_jp jis0208 jis0212)
euc_jp_holding jis0208 jis0212 = record {
  bytes = euc_jp_bytes;
  few = euc_jp_few;
  at_byte = euc_jp_byte jis0208 jis0212;
  at_end = euc_jp_end jis0208 jis0212;
}

pub gb18030_byte : (index ranges : ℕ → Option ℕ) (s : Gb18030State) (b : ℕ) → AtByte gb18030_bytes (gb18030_bytes s) (gb18030 index ranges s (Some b))
gb18030_byte index ranges gb18030_idle b = Prim.search (rules, turns_at_byte)
gb18030_byte index ranges (First first) b = Prim.search (rules, turns_at_byte)
gb18030_byte index ranges (Second first second) b = Prim.search (rules, turns_at_byte)
gb18030_byte index ranges (Third first second third) b = Prim.search (rules, turns_at_byte)

pub gb18030_end : (index ranges : ℕ → Option ℕ) (s : Gb18030State) → AtEnd gb18030_bytes (gb18030_bytes s) (gb18030 index ranges s None)
gb18030_end index ranges gb18030_idle = Prim.search (rules, turns_at_end)
gb18030_end index ranges (First first) = Prim.search (rules, turns_at_end)
gb18030_end index ranges (Second first second) = Prim.search (rules, turns_at_end)
gb18030_end index ranges (Third first second third) = Prim.search (rules, turns_at_end)

abbrev pub gb18030_holding : (index ranges : ℕ → Option ℕ) → Holding (gb18030 index ranges)
gb18030_holding index ranges = record {
  bytes = gb18030_bytes;
  few = gb18030_few;
  at_byte = gb18030_byte index ranges;
  at_end = gb18030_end index ranges;
}
