-- Turns in front of a queue: those that hold their bytes, and one that gives a code point; and runs of code points without gaps.
use Rattle.std.proofs.Common.{◌≡◌, ℕ, suc, ◌+◌, ◌<◌, ◌≤◌, List, [], ◌∷◌, ◌++◌, Some, length, take, drop, get_or, Option, None, IfSome, refl, pos, ℤ, ◌+ℤ◌, ◌-ℤ◌}
use Rattle.std.proofs.Common.{sym, ◌∙◌, arith, append-nil}
use Rattle.decoder_core.proofs.Prelude.{ints, One, Stride, plain_from, width_of, IsFront, Falls, feed, holds, shown_from}
use Rattle.decoder_core.specs.{Escapes.IsEscape, Escapes.IsHeldFront, Queue.Table, Forms.gives}
use Rattle.decoder_core.proofs.Running.{feed-nil, none-fed, feed-turn}

-- what holds of what is there
pub if-some : {A : Type 0} {P Q : A → Type 0} → ((a : A) → P a → Q a) → (o : Option A) → IfSome o P → IfSome o Q
if-some f None h = h
if-some f (Some a) h = f a h

three-front : (bytes : List ℕ) → 3 ≤ length bytes → take 3 bytes ≡ get_or bytes 0 0 ∷ get_or bytes 1 0 ∷ get_or bytes 2 0 ∷ []
three-front [] h = absurd (omega (arith, h))
three-front (a ∷ []) h = absurd (omega (arith, h))
three-front (a ∷ b ∷ []) h = absurd (omega (arith, h))
three-front (a ∷ b ∷ c ∷ bytes) h = refl

module _ {S : Type 0} {table : Table S} (f : Falls table) where
  -- an escape
  pub escape-fed : (s after : S) (bytes : List ℕ) → IsHeldFront table s bytes after → IsEscape table s bytes after
  escape-fed s after bytes h =
      let b = get_or bytes 1 0 in
      let c = get_or bytes 2 0 in
      record {
        within = h.within;
        fed = rw (
          three-front bytes h.within,
          feed-turn f s (get_or bytes 0 0) (b ∷ c ∷ []),
          h.first,
          feed-turn f h.one b (c ∷ []),
          h.second,
          feed-turn f h.two c [],
          h.third,
        ) (feed-nil f after);
      }

  -- what some bytes do that are one code point, whatever follows them
  pub record Passes (s next : S) (bytes : List ℕ) (c : ℕ) : Type 0 where
    pub shown : (read : ℕ) (q : List ℕ)
        → shown_from table read s (bytes ++ q)
        ≡ record { item = One c; end = pos (read + length bytes); after = next } ∷ shown_from table (read + length bytes) next q
    pub state : (q : List ℕ) → (feed table s (bytes ++ q)).state ≡ (feed table next q).state

  pub given : {s next : S} {b c : ℕ} → table s (Some b) ≡ gives next (One c) [] → Passes s next (b ∷ []) c
  given {s = s} {next = next} {b = b} turn = record {
    shown = λ read q.
        let end : pos (read + 1) -ℤ pos 0 ≡ pos (read + 1) = omega (arith, ints) in rw (feed-turn f s b [], turn, feed-nil f next, end);
    state = λ q. rw (feed-turn f s b q, turn);
  }

  pub held : {s next last : S} {b c : ℕ} {bytes : List ℕ} → table s (Some b) ≡ holds next → Passes next last bytes c → Passes s last (b ∷ bytes) c
  held {s = s} {next = next} {b = b} {bytes = bytes} turn others = record {
    shown = λ read q.
        let far : read + 1 + length bytes ≡ read + suc (length bytes) = omega arith in
        rw (feed-turn f s b [], turn, feed-nil f next) (rw far at (others.shown (read + 1) q));
    state = λ q. rw (feed-turn f s b (bytes ++ q), turn) (others.state q);
  }

  module _ (s : S) (stride : Stride) where
    -- they are the one item at a place
    pub at-front : (bytes here : List ℕ) (at c : ℕ) → take (length here) (drop at bytes) ≡ here → Passes s s here c → at + length here ≤ length bytes
        → 0 < length here → length here ≡ width_of stride c → IsFront table s stride bytes at c (length here)
    at-front bytes here at c front passes within some wide =
        let whole = front ∙ sym (append-nil here) in
        record {
          within = within;
          some = some;
          wide = wide;
          stays = rw whole (passes.state [] ∙ none-fed f s);
          items = λ read. rw whole (passes.shown read []);
        }

    -- code points in sequence, each of which leads back to the state
    abbrev pub ArePassed : List ℕ → List ℕ → Type 0
    ArePassed [] bytes = bytes ≡ []
    ArePassed (c ∷ cs) bytes =
        (here : List ℕ) × (others : List ℕ) × (bytes ≡ here ++ others) × Passes s s here c × (length here ≡ width_of stride c) × ArePassed cs others

    pub passed-shown : (cs bytes : List ℕ) → ArePassed cs bytes → (read : ℕ) → shown_from table read s bytes ≡ plain_from stride (pos read) s cs
    passed-shown [] bytes none read = rw none
    passed-shown (c ∷ cs) bytes p read =
        let end : pos (read + length p.0) ≡ pos read +ℤ pos (width_of stride c) = omega (arith, ints, p.4) in
        rw (p.2, p.3.shown read p.1, passed-shown cs p.1 p.5 (read + length p.0), end)

    pub passed-stays : (cs bytes : List ℕ) → ArePassed cs bytes → (feed table s bytes).state ≡ s
    passed-stays [] bytes none = rw none (none-fed f s)
    passed-stays (c ∷ cs) bytes p = rw (p.2, p.3.state p.1) (passed-stays cs p.1 p.5)
