-- Proofs that a trait asks for; there is nothing to believe here. Why UTF-8's turns end, and how few items a step gives.
use Rattle.std.proofs.Common.{◌≡◌, ◌≢◌, ℕ, ◌+◌, ◌*◌, ◌<◌, ◌≤◌, false, ◌==◌, List, [], ◌∷◌, ◌++◌, length, Some, if◌then◌else◌, arith, refl, lit<, lit≤}
use Rattle.decoder_core.specs.declared.{item.Item.Item, item.Item.TheVariants.Error, handler.Answer.TheVariants.Finished}
use Rattle.decoder_core.specs.{Queue.Turn, Queue.Falls, Queue.turn_at, Queue.queue_after, Counts.Counts, Counts.cost, Forms.holds, Forms.is_ascii, Forms.within}
use Rattle.decoder_core.specs.{Utf8.Utf8, Utf8.utf8, Utf8.utf8_gives, Utf8.utf8_begins, ByCases.by_if, ByCases.by_test}

-- what holds of each kind of turn that reads a byte holds of the turn
pub utf8_turn : (P : Turn Utf8 → Type 0) (s : Utf8) (b : ℕ)
    → ((i : Item) → P (utf8_gives i []))
    → ((c n l u : ℕ) → (n == 0) ≡ false → P (utf8_begins c n l u))
    → ((c : ℕ) → P (holds (record { code_point = c; seen = s.seen + 1; needed = s.needed; lower = 0x80; upper = 0xBF })))
    → ((s.needed == 0) ≡ false → P (utf8_gives Error (b ∷ [])))
    → P (utf8 s (Some b))
utf8_turn P s b gives begins goes fails =
    by_test P (s.needed == 0)
    (λ _.
    by_if P (is_ascii b) (gives _)
    (by_if P (within 0xC2 0xDF b) (begins _ 1 _ _ refl)
    (by_if P (within 0xE0 0xEF b) (begins _ 2 _ _ refl)
    (by_if P (within 0xF0 0xF4 b) (begins _ 3 _ _ refl) (gives Error)))))
    (λ pending. by_if P (within s.lower s.upper b) (by_if P (s.seen + 1 == s.needed) (gives _) (goes _)) (fails pending))

abbrev pub utf8_held : Utf8 → ℕ
utf8_held s = if s.needed == 0 then 0 else 1

pub goes_on : (s : Utf8) (b : ℕ) → (utf8 s (Some b)).answer ≢ Finished
goes_on s b = utf8_turn (λ (t : Turn Utf8). t.answer ≢ Finished) s b (λ i e. Prim.cc) (λ c n l u h e. Prim.cc) (λ c e. Prim.cc) (λ h e. Prim.cc)

pub falls_at : (s : Utf8) (q : List ℕ) → (turn_at utf8 s q).answer ≢ Finished
    → 8 * length (queue_after utf8 s q) + utf8_held (turn_at utf8 s q).state < 8 * length q + utf8_held s
falls_at s [] =
    by_test (λ (t : Turn Utf8). t.answer ≢ Finished → 8 * length (t.back ++ []) + utf8_held t.state < 0 + utf8_held s) (s.needed == 0)
    (λ _ going. absurd (going refl)) (λ pending _. Prim.rw pending (Prim.omega arith))
falls_at s (b ∷ q) =
    utf8_turn (λ (t : Turn Utf8). t.answer ≢ Finished → 8 * length (t.back ++ q) + utf8_held t.state < 8 * length (b ∷ q) + utf8_held s) s b
    (λ i _. Prim.omega arith) (λ c n l u some _. Prim.rw some (Prim.omega arith)) (λ c _. Prim.omega arith) (λ pending _. Prim.rw pending (Prim.omega arith))

abbrev pub utf8_falls : Falls utf8
utf8_falls = record {
  held = utf8_held;
  small = λ s. by_if (λ n. n < 32) (s.needed == 0) (lit< tt) (lit< tt);
  falls = falls_at;
  stays = λ s b finished. absurd (goes_on s b finished);
}

pub costs_at : (s : Utf8) (q : List ℕ)
    → length (queue_after utf8 s q) + utf8_held (turn_at utf8 s q).state + cost (turn_at utf8 s q).answer ≤ length q + utf8_held s
costs_at s [] =
    by_test (λ (t : Turn Utf8). length (t.back ++ []) + utf8_held t.state + cost t.answer ≤ 0 + utf8_held s) (s.needed == 0)
    (λ _. Prim.omega arith) (λ pending. Prim.rw pending (Prim.omega arith))
costs_at s (b ∷ q) =
    utf8_turn (λ (t : Turn Utf8). length (t.back ++ q) + utf8_held t.state + cost t.answer ≤ length (b ∷ q) + utf8_held s) s b
    (λ i. Prim.omega arith) (λ c n l u some. Prim.rw some (Prim.omega arith)) (λ c. Prim.omega arith) (λ pending. Prim.rw pending (Prim.omega arith))

abbrev pub utf8_counts : Counts utf8
utf8_counts = record {
  bytes = utf8_held;
  few = λ s. by_if (λ n. n ≤ 7) (s.needed == 0) (lit≤ tt) (lit≤ tt);
  costs = costs_at;
}
