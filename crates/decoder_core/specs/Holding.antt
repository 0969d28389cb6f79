-- Proofs that a trait asks for; there is nothing to believe here. They show why the turns of most decoders come to an end, and how few items
-- a step gives. A state holds at most three bytes, and a turn that continues holds the byte that it read, or gives an item. Then the bytes
-- that it puts back and those that it still holds are together no more than were held.
use Rattle.std.specs.Prelude.{◌≢◌, ℕ, ◌+◌, ◌*◌, ◌<◌, ◌≤◌, Bool, true, false, List, [], ◌∷◌, length, Some, None, if◌then◌else◌}
use Rattle.std.proofs.Common.{refl, arith, length-append}
use Rattle.decoder_core.specs.declared.item.Item.{Item}
use Rattle.decoder_core.specs.{declared.handler.Answer.TheVariants.Finished, Queue.Turn, Queue.Table, Queue.Falls, Queue.turn_at, Queue.queue_after}
use Rattle.decoder_core.specs.{Counts.Counts, Counts.cost, Forms.gives, Forms.holds, Forms.finishes}

-- a turn that read a byte while `held` bytes were held
pub record AtByte {S : Type 0} (bytes : S → ℕ) (held : ℕ) (turn : Turn S) : Type 0 where
  pub goes_on : turn.answer ≢ Finished
  pub falls : 8 * length turn.back + 7 * bytes turn.state < 8 + 7 * held
  pub counts : length turn.back + bytes turn.state + cost turn.answer ≤ 1 + held

-- a turn that read the end
pub record AtEnd {S : Type 0} (bytes : S → ℕ) (held : ℕ) (turn : Turn S) : Type 0 where
  pub falls : turn.answer ≢ Finished → 8 * length turn.back + 7 * bytes turn.state < 7 * held
  pub counts : length turn.back + bytes turn.state + cost turn.answer ≤ held

pub record Holding {S : Type 0} (table : Table S) : Type 0 where
  pub bytes : S → ℕ
  pub few : (s : S) → bytes s ≤ 3
  pub at_byte : (s : S) (b : ℕ) → AtByte bytes (bytes s) (table s (Some b))
  pub at_end : (s : S) → AtEnd bytes (bytes s) (table s None)

pub gives_at_byte : {S : Type 0} (bytes : S → ℕ) (held : ℕ) (next : S) (item : Item) (back : List ℕ)
    → length back + bytes next ≤ held → held ≤ 3 → AtByte bytes held (gives next item back)
gives_at_byte bytes held next item back h f =
    record { goes_on = λ e. Prim.cc; falls = Prim.omega arith; counts = Prim.omega arith }

pub holds_at_byte : {S : Type 0} (bytes : S → ℕ) (held : ℕ) (next : S) → bytes next ≤ 1 + held → AtByte bytes held (holds next)
holds_at_byte bytes held next h = record { goes_on = λ e. Prim.cc; falls = Prim.omega arith; counts = Prim.omega arith }

pub if_at_byte : {S : Type 0} (bytes : S → ℕ) (held : ℕ) (c : Bool) (x y : Turn S)
    → AtByte bytes held x → AtByte bytes held y → AtByte bytes held (if c then x else y)
if_at_byte bytes held true x y h k = h
if_at_byte bytes held false x y h k = k

pub gives_at_end : {S : Type 0} (bytes : S → ℕ) (held : ℕ) (next : S) (item : Item) (back : List ℕ)
    → length back + bytes next + 1 ≤ held → held ≤ 3 → AtEnd bytes held (gives next item back)
gives_at_end bytes held next item back h f = record { falls = λ _. Prim.omega arith; counts = Prim.omega arith }

pub finishes_at_end : {S : Type 0} (bytes : S → ℕ) (held : ℕ) (next : S) → bytes next ≤ held → AtEnd bytes held (finishes next)
finishes_at_end bytes held next h = record { falls = λ n. absurd (n refl); counts = Prim.omega arith }

-- what a table's turns are made of
pub ruleset turns_at_byte = (gives_at_byte, holds_at_byte, if_at_byte)

pub ruleset turns_at_end = (gives_at_end, finishes_at_end)

module _ {S : Type 0} (table : Table S) (holding : Holding table) where
  pub falls_at : (s : S) (q : List ℕ) → (turn_at table s q).answer ≢ Finished
      → 8 * length (queue_after table s q) + 7 * holding.bytes (turn_at table s q).state < 8 * length q + 7 * holding.bytes s
  falls_at s [] n = let f = (holding.at_end s).falls n in Prim.omega (arith, length-append (table s None).back [])
  falls_at s (b ∷ q) n =
      let f = (holding.at_byte s b).falls in Prim.omega (arith, length-append (table s (Some b)).back q)

  pub counts_at : (s : S) (q : List ℕ)
      → length (queue_after table s q) + holding.bytes (turn_at table s q).state + cost (turn_at table s q).answer ≤ length q + holding.bytes s
  counts_at s [] = let f = (holding.at_end s).counts in Prim.omega (arith, length-append (table s None).back [])
  counts_at s (b ∷ q) =
      let f = (holding.at_byte s b).counts in Prim.omega (arith, length-append (table s (Some b)).back q)

  pub small_at : (s : S) → 7 * holding.bytes s < 32
  small_at s = let f = holding.few s in Prim.omega arith

  pub few_at : (s : S) → holding.bytes s ≤ 7
  few_at s = let f = holding.few s in Prim.omega arith

  abbrev pub falls_of : Falls table
  falls_of = record {
    held = λ s. 7 * holding.bytes s;
    small = small_at;
    falls = falls_at;
    stays = λ s b e o. absurd ((holding.at_byte s b).goes_on e);
  }

  abbrev pub counts_of : Counts table
  counts_of = record { bytes = holding.bytes; few = few_at; costs = counts_at }
