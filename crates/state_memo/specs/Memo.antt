-- A piece and the outcomes that it remembers.
use Rattle.std.specs.Prelude.{◌≡◌, ℕ, ◌-◌, ◌<◌, nat_le, option_map, slice_get, Bool, List, [], ◌∷◌, take, drop, length, Option, Some, None, if◌then◌else◌}
use Rattle.std.specs.List.{remove, sum_by}
use Rattle.codec.specs.declared.state.AnyState.{AnyState}
use Rattle.codec.specs.contracts.state.AnyStatePartialEq.TheImpl as any
use Rattle.state_memo.specs.declared.outcome.Outcome.{Outcome}

-- equal as the code finds states equal, which is the same as identical
abbrev pub same_state : AnyState → AnyState → Bool
same_state a b = any.ghosts.eq a b

-- a state in which a piece may be entered, and what it decodes to from there
pub record Known : Type 0 where
  pub entry : AnyState
  pub outcome : Outcome

-- a piece's bytes, and its remembered outcomes, the last entered first
pub record Memo : Type 0 where
  pub bytes : List ℕ
  pub known : List Known

-- the outcome that is remembered for a state
abbrev pub recalled : List Known → AnyState → Option Outcome
recalled [] s = None
recalled (k ∷ ks) s = if same_state k.entry s then Some k.outcome else recalled ks s

-- the others
abbrev pub without : List Known → AnyState → List Known
without [] s = []
without (k ∷ ks) s = if same_state k.entry s then ks else k ∷ without ks s

-- what is installed comes first, and four are kept
abbrev pub installed : List Known → AnyState → Outcome → List Known
installed ks s outcome = take 4 (record { entry = s; outcome = outcome } ∷ without ks s)

abbrev pub put_first : Option Outcome → List Known → AnyState → List Known
put_first (Some outcome) ks s = record { entry = s; outcome = outcome } ∷ without ks s
put_first None ks s = ks

-- what is found comes first, and otherwise nothing moves
abbrev pub entered : List Known → AnyState → List Known
entered ks s = put_first (recalled ks s) ks s

-- how many bytes of memory the outcomes take
abbrev pub memory_of : List Known → ℕ
memory_of ks = sum_by (λ (k : Known). k.outcome.memory) ks

-- as many of the first as take at most `most` bytes together
abbrev pub fitting : ℕ → List Known → List Known
fitting most [] = []
fitting most (k ∷ ks) = if nat_le k.outcome.memory most then k ∷ fitting (most - k.outcome.memory) ks else []

-- the first, and if it takes at most `most` bytes, as many after it as take no more together with it
abbrev pub spared : ℕ → List Known → List Known
spared most [] = []
spared most (k ∷ ks) = k ∷ drop 1 (fitting most (k ∷ ks))

-- the place of the outcome that is remembered for the state
pub record IsSlot (ks : List Known) (s : AnyState) (i : ℕ) : Type 0 where
  pub within : i < length ks
  pub found : recalled ks s ≡ option_map (λ (k : Known). k.outcome) (slice_get ks i)
  pub others : without ks s ≡ remove ks i
