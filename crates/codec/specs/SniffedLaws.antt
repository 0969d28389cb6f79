-- Proofs that a trait asks for; there is nothing to believe here. A decoder that looks for a byte order mark comes to an end, and gives few
-- items, like the decoder after the look.
use Rattle.std.proofs.Common.{◌≡◌, ◌≢◌, refl, sym, ap, subst, ◌∙◌, ℕ, ◌+◌, ◌*◌, ◌<◌, ◌≤◌, ◌==◌, List, [], ◌∷◌, ◌++◌, length, length-append, Option, Some, None}
use Rattle.std.proofs.Common.{arith}
use Rattle.decoder_core.specs.declared.handler.Answer.TheVariants.{Nothing as no_item, Finished}
use Rattle.decoder_core.specs.declared.utf16.ByteOrder.TheVariants.{BigEndian, LittleEndian}
use Rattle.decoder_core.specs.{ByCases.by_if, Counts.Counts, Counts.cost, Forms.holds}
use Rattle.decoder_core.specs.{Holding.Holding, Holding.falls_of, Holding.counts_of, Queue.Turn, Queue.Table, Queue.Falls, Queue.front, Queue.behind}
use Rattle.decoder_core.specs.{Utf8.utf8_start, Utf8Laws.utf8_falls, Utf8Laws.utf8_counts, Utf16.utf16_start, Utf16Laws.utf16_holding}
use Rattle.codec.specs.declared.prefix.Prefix.{Prefix, TheVariants.Nothing, TheVariants.Ef, TheVariants.EfBb, TheVariants.Fe, TheVariants.Ff}
use Rattle.codec.specs.declared.state.AnyState.{AnyState}
use Rattle.codec.specs.declared.state.AnyState.TheVariants.{Sniffing as in_sniffing, Utf8 as in_utf8, Utf16Be as in_utf16_be, Utf16Le as in_utf16_le}
use Rattle.codec.specs.{Coding.Coding, Lifted.lifted_at, Lifted.lifted, Lifted.finished}
use Rattle.codec.specs.LiftedLaws.{falls_lifted, counts_lifted, falls_finished, counts_finished}
use Rattle.codec.specs.Sniffing.{prefix_bytes, restarts, sniffing, sniffing_byte}
use Rattle.codec.specs.Sniffed.{Seen, Looks, AsUtf8, AsUtf16Be, AsUtf16Le, Given, seen, sniffed_at, sniffed}

-- a state of the given encoding is followed by another
abbrev pub Keeps : Table AnyState → Type 0
Keeps given = (s : AnyState) (read : Option ℕ) → seen s ≡ Given → seen (given s read).state ≡ Given

-- what holds of each kind of turn at a byte after a prefix holds of the turn
pub by_sniffing : (P : Turn AnyState → Type 0) (start : AnyState) (p : Prefix) (b : ℕ)
    → ((longer : Prefix) → length (prefix_bytes longer) ≡ length (prefix_bytes p) + 1 → P (holds (in_sniffing longer)))
    → P (holds (in_utf8 utf8_start)) → P (holds (in_utf16_be utf16_start)) → P (holds (in_utf16_le utf16_start)) → P (restarts start (prefix_bytes p ++ b ∷ []))
    → P (sniffing_byte start p b)
by_sniffing P start Nothing b longer u be le none =
    by_if P (b == 0xEF) (longer Ef refl) (by_if P (b == 0xFE) (longer Fe refl) (by_if P (b == 0xFF) (longer Ff refl) none))
by_sniffing P start Ef b longer u be le none = by_if P (b == 0xBB) (longer EfBb refl) none
by_sniffing P start EfBb b longer u be le none = by_if P (b == 0xBF) u none
by_sniffing P start Fe b longer u be le none = by_if P (b == 0xFF) be none
by_sniffing P start Ff b longer u be le none = by_if P (b == 0xFE) le none

pub sniffing-answer : (start : AnyState) (p : Prefix) (read : Option ℕ) → (sniffing start p read).answer ≡ no_item
sniffing-answer start p None = refl
sniffing-answer start p (Some b) = by_sniffing (λ t. t.answer ≡ no_item) start p b (λ _ _. refl) refl refl refl refl

prefix-few : (p : Prefix) → length (prefix_bytes p) ≤ 2
prefix-few Nothing = Prim.omega arith
prefix-few Ef = Prim.omega arith
prefix-few EfBb = Prim.omega arith
prefix-few Fe = Prim.omega arith
prefix-few Ff = Prim.omega arith

-- what a law says of a state; that of the given encoding's table speaks of its states
abbrev pub weight_at : (AnyState → ℕ) → AnyState → Seen → ℕ
weight_at held s (Looks p) = 17 + 7 * length (prefix_bytes p)
weight_at held s (AsUtf8 u) = utf8_falls.held u
weight_at held s (AsUtf16Be u) = (falls_of _ (utf16_holding BigEndian)).held u
weight_at held s (AsUtf16Le u) = (falls_of _ (utf16_holding LittleEndian)).held u
weight_at held s Given = held s

abbrev pub weight : (AnyState → ℕ) → AnyState → ℕ
weight held s = weight_at held s (seen s)

abbrev pub bytes_at : (AnyState → ℕ) → AnyState → Seen → ℕ
bytes_at given s (Looks p) = 5 + length (prefix_bytes p)
bytes_at given s (AsUtf8 u) = utf8_counts.bytes u
bytes_at given s (AsUtf16Be u) = (counts_of _ (utf16_holding BigEndian)).bytes u
bytes_at given s (AsUtf16Le u) = (counts_of _ (utf16_holding LittleEndian)).bytes u
bytes_at given s Given = given s

abbrev pub bytes : (AnyState → ℕ) → AnyState → ℕ
bytes given s = bytes_at given s (seen s)

-- what the given encoding's table and its first state owe
pub record Lawful (start : AnyState) (given : Table AnyState) : Type 0 where
  pub keeps : Keeps given
  pub falls : Falls given
  pub counts : Counts given
  pub light : weight falls.held start ≤ 14
  pub few : bytes counts.bytes start ≤ 5

module _ (start : AnyState) (given : Table AnyState) (lawful : Lawful start given) where
  abbrev table : Table AnyState
  table = sniffed start given

  -- ---- turns come to an end

  abbrev held : AnyState → ℕ
  held = weight lawful.falls.held

  small_at : (s : AnyState) (o : Seen) → weight_at lawful.falls.held s o < 32
  small_at s (Looks p) = let few = prefix-few p in Prim.omega arith
  small_at s (AsUtf8 u) = utf8_falls.small u
  small_at s (AsUtf16Be u) = (falls_of _ (utf16_holding BigEndian)).small u
  small_at s (AsUtf16Le u) = (falls_of _ (utf16_holding LittleEndian)).small u
  small_at s Given = lawful.falls.small s

  looks-fall : (p : Prefix) (q : List ℕ)
      → 8 * length ((sniffing start p (front q)).back ++ behind q) + held (sniffing start p (front q)).state < 8 * length q + (17 + 7 * length (prefix_bytes p))
  looks-fall p [] = Prim.omega (arith, lawful.light, prefix-few p, length-append (prefix_bytes p) [])
  looks-fall p (b ∷ q) =
      by_sniffing (λ t. 8 * length (t.back ++ q) + held t.state < 8 * length (b ∷ q) + (17 + 7 * length (prefix_bytes p))) start p b
      (λ longer e. Prim.omega (arith, e)) (Prim.omega arith) (Prim.omega arith) (Prim.omega arith)
      (Prim.omega (arith, lawful.light, prefix-few p, length-append (prefix_bytes p ++ b ∷ []) q, length-append (prefix_bytes p) (b ∷ [])))

  falls_at : (s : AnyState) (q : List ℕ) (o : Seen) → seen s ≡ o → (sniffed_at start given s (front q) o).answer ≢ Finished
      → 8 * length ((sniffed_at start given s (front q) o).back ++ behind q) + held (sniffed_at start given s (front q) o).state
      < 8 * length q + weight_at lawful.falls.held s o
  falls_at s q (Looks p) e goes = looks-fall p q
  falls_at s q (AsUtf8 u) e goes = utf8_falls.falls u q goes
  falls_at s q (AsUtf16Be u) e goes = (falls_of _ (utf16_holding BigEndian)).falls u q goes
  falls_at s q (AsUtf16Le u) e goes = (falls_of _ (utf16_holding LittleEndian)).falls u q goes
  falls_at s q Given e goes =
      let turn = given s (front q) in
      subst (λ (n : ℕ). 8 * length (turn.back ++ behind q) + n < 8 * length q + lawful.falls.held s)
      (sym (ap (weight_at lawful.falls.held turn.state) (lawful.keeps s (front q) e))) (lawful.falls.falls s q goes)

  stays_at : (s : AnyState) (b : ℕ) (o : Seen) → seen s ≡ o → (sniffed_at start given s (Some b) o).answer ≡ Finished → (r : Option ℕ)
      → ((table (sniffed_at start given s (Some b) o).state r).answer ≡ Finished)
      × ((table (sniffed_at start given s (Some b) o).state r).state ≡ (sniffed_at start given s (Some b) o).state)
  stays_at s b (Looks p) e done r = let goes = sym (sniffing-answer start p (Some b)) ∙ done in absurd Prim.cc
  stays_at s b (AsUtf8 u) e done r = let after = utf8_falls.stays u b done r in (after.0, ap in_utf8 after.1)
  stays_at s b (AsUtf16Be u) e done r =
      let after = (falls_of _ (utf16_holding BigEndian)).stays u b done r in (after.0, ap in_utf16_be after.1)
  stays_at s b (AsUtf16Le u) e done r =
      let after = (falls_of _ (utf16_holding LittleEndian)).stays u b done r in (after.0, ap in_utf16_le after.1)
  stays_at s b Given e done r =
      let next = (given s (Some b)).state in
      let after = lawful.falls.stays s b done r in
      let kept = lawful.keeps s (Some b) e in (
        ap (λ (o : Seen). (sniffed_at start given next r o).answer) kept ∙ after.0,
        ap (λ (o : Seen). (sniffed_at start given next r o).state) kept ∙ after.1,
      )

  pub falls_sniffed : Falls table
  falls_sniffed = record {
    held = held;
    small = λ s. small_at s (seen s);
    falls = λ s q. falls_at s q (seen s) refl;
    stays = λ s b. stays_at s b (seen s) refl;
  }

  -- ---- a step gives few items

  abbrev holds_bytes : AnyState → ℕ
  holds_bytes = bytes lawful.counts.bytes

  few_at : (s : AnyState) (o : Seen) → bytes_at lawful.counts.bytes s o ≤ 7
  few_at s (Looks p) = let few = prefix-few p in Prim.omega arith
  few_at s (AsUtf8 u) = utf8_counts.few u
  few_at s (AsUtf16Be u) = (counts_of _ (utf16_holding BigEndian)).few u
  few_at s (AsUtf16Le u) = (counts_of _ (utf16_holding LittleEndian)).few u
  few_at s Given = lawful.counts.few s

  looks-cost : (p : Prefix) (q : List ℕ)
      → length ((sniffing start p (front q)).back ++ behind q) + holds_bytes (sniffing start p (front q)).state + cost (sniffing start p (front q)).answer
      ≤ length q + (5 + length (prefix_bytes p))
  looks-cost p [] = Prim.omega (arith, lawful.few, length-append (prefix_bytes p) [])
  looks-cost p (b ∷ q) =
      by_sniffing (λ t. length (t.back ++ q) + holds_bytes t.state + cost t.answer ≤ length (b ∷ q) + (5 + length (prefix_bytes p))) start p b
      (λ longer e. Prim.omega (arith, e)) (Prim.omega arith) (Prim.omega arith) (Prim.omega arith)
      (Prim.omega (arith, lawful.few, length-append (prefix_bytes p ++ b ∷ []) q, length-append (prefix_bytes p) (b ∷ [])))

  costs_at : (s : AnyState) (q : List ℕ) (o : Seen) → seen s ≡ o
      → length ((sniffed_at start given s (front q) o).back ++ behind q) + holds_bytes (sniffed_at start given s (front q) o).state
      + cost (sniffed_at start given s (front q) o).answer
      ≤ length q + bytes_at lawful.counts.bytes s o
  costs_at s q (Looks p) e = looks-cost p q
  costs_at s q (AsUtf8 u) e = utf8_counts.costs u q
  costs_at s q (AsUtf16Be u) e = (counts_of _ (utf16_holding BigEndian)).costs u q
  costs_at s q (AsUtf16Le u) e = (counts_of _ (utf16_holding LittleEndian)).costs u q
  costs_at s q Given e =
      let turn = given s (front q) in
      subst (λ (n : ℕ). length (turn.back ++ behind q) + n + cost turn.answer ≤ length q + lawful.counts.bytes s)
      (sym (ap (bytes_at lawful.counts.bytes turn.state) (lawful.keeps s (front q) e))) (lawful.counts.costs s q)

  pub counts_sniffed : Counts table
  counts_sniffed = record {
    bytes = holds_bytes;
    few = λ s. few_at s (seen s);
    costs = λ s q. costs_at s q (seen s) refl;
  }

-- ---- decoders that stand behind the look

-- what holds of a decoder alone: its turns end, its steps give few items, and it holds no byte at first
pub record IsLawful (c : Coding) : Type 0 where
  pub falls : Falls c.table
  pub counts : Counts c.table
  pub light : falls.held c.start ≤ 14
  pub none : counts.bytes c.start ≡ 0

pub lawful_holding : (c : Coding) (holding : Holding c.table) → holding.bytes c.start ≡ 0 → IsLawful c
lawful_holding c holding none =
    record { falls = falls_of c.table holding; counts = counts_of c.table holding; light = Prim.omega (arith, none); none = none }

module _ (c : Coding) (put : c.State → AnyState) (part : AnyState → Option c.State) (found : (s : c.State) → part (put s) ≡ Some s)
    (given : (s : c.State) → seen (put s) ≡ Given) where
  keeps_at : (t : AnyState) (read : Option ℕ) (o : Option c.State) → seen t ≡ Given → seen (lifted_at put c.table t read o).state ≡ Given
  keeps_at t read (Some s) e = given (c.table s read).state
  keeps_at t read None e = e

  pub lawful_lifted : IsLawful c → Lawful (put c.start) (lifted put part c.table)
  lawful_lifted law = record {
    keeps = λ t read. keeps_at t read (part t);
    falls = falls_lifted put part found c.table law.falls;
    counts = counts_lifted put part found c.table law.counts;
    light = Prim.rw (given c.start, found c.start) law.light;
    few = Prim.rw (given c.start, found c.start) (Prim.omega (arith, law.none));
  }

pub lawful_finished : (start : AnyState) → weight (λ _. 0) start ≤ 14 → bytes (λ _. 0) start ≤ 5 → Lawful start finished
lawful_finished start light few = record { keeps = λ s read e. e; falls = falls_finished; counts = counts_finished; light = light; few = few }
