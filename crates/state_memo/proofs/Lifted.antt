-- What a decoder gives among all decoders.
use Rattle.std.proofs.Common.{◌≡◌, refl, sym, ap, ◌∙◌, ℕ, ◌+◌, ◌≤◌, List, [], ◌∷◌, map, fold, length, pos, ◌-ℤ◌}
use Rattle.decoder_core.specs.declared.item.Ended.{Ended as EndedItem}
use Rattle.decoder_core.specs.{Lift.IsLifted, Lift.lift_fed, Queue.Table, Queue.Fed, Queue.feed, Shown.Shown, Shown.shown_at, Shown.shown_from}
use Rattle.state_memo.specs.{Among.IsAmong, Outcome.Contents, Outcome.contents_by, Outcome.outcome_of}
use Rattle.state_memo.proofs.Prelude.{OutputState, AnyState, AnyDecoding, any, output_of, IsDone, Gathered, no_item, with_shown, map-append}
use Rattle.state_memo.proofs.Gathered.{shown_all, gathered-is, done, computed}

abbrev lifted_shown : {S T : Type 0} → (S → T) → Shown S → Shown T
lifted_shown f x = record { item = x.item; end = x.end; after = f x.after }

at-lift : {S T : Type 0} (f : S → T) (i : ℕ) (s : S) (es : List EndedItem) → shown_at i (f s) es ≡ map (lifted_shown f) (shown_at i s es)
at-lift f i s [] = refl
at-lift f i s (e ∷ es) = ap (λ (xs : List (Shown _)). record { item = e.item; end = pos i -ℤ pos e.back; after = f s } ∷ xs) (at-lift f i s es)

-- bytes that are fed to the smaller decoder are fed to the larger
abbrev pub FeedsAlike : {S T : Type 0} → (S → T) → Table S → Table T → Type 0
FeedsAlike {S} f small big = (s : S) (q : List ℕ) → feed big (f s) q ≡ lift_fed f (feed small s q)

shown-lift : {S T : Type 0} (f : S → T) (small : Table S) (big : Table T) → FeedsAlike f small big → (i : ℕ) (s : S) (q : List ℕ)
    → shown_from big i (f s) q ≡ map (lifted_shown f) (shown_from small i s q)
shown-lift f small big feeds i s [] = refl
shown-lift f small big feeds i s (b ∷ q) =
    let t = feed small s (b ∷ []) in
    rw (feeds s (b ∷ []), at-lift f (i + 1) t.state t.items, shown-lift f small big feeds (i + 1) t.state q, map-append (lifted_shown f)) refl

fold-lift : {S : Type 0} (f : S → AnyState) (output : S → OutputState) → ((s : S) → output s ≡ output_of (f s)) → (xs : List (Shown S)) (g : Gathered)
    → fold (with_shown output) g xs ≡ fold (with_shown output_of) g (map (lifted_shown f) xs)
fold-lift f output outputs [] g = refl
fold-lift f output outputs (x ∷ xs) g =
    rw (outputs x.after) (fold-lift f output outputs xs (with_shown output_of g (lifted_shown f x)))

module _ (d : AnyDecoding) {S : Type 0} (f : S → AnyState) (output : S → OutputState) (small : Table S)
    (feeds : FeedsAlike f small (any d)) (outputs : (s : S) → output s ≡ output_of (f s))
    (s : S) (bytes : List ℕ) (after : Gathered) (after_is : after ≡ fold (with_shown output) no_item (shown_from small 0 s bytes)) where
  -- what is gathered by an encoding's own decoder is what the one decoder shows
  gathered-lift : after ≡ shown_all (shown_from (any d) 0 (f s) bytes)
  gathered-lift =
      gathered-is (shown_from (any d) 0 (f s) bytes) no_item after refl
      (rw (after_is, shown-lift f small (any d) feeds 0 s bytes) (fold-lift f output outputs (shown_from small 0 s bytes) no_item))

  pub arm-done : length (shown_from (any d) 0 (f s) bytes) ≤ length bytes + 7 → IsDone (length bytes) after
  arm-done few = done (length bytes) (shown_from (any d) 0 (f s) bytes) after few gathered-lift

  pub arm-outcome : (exit : S) → exit ≡ (feed small s bytes).state → (c : Contents) → c ≡ contents_by (length bytes) after (f exit)
      → c ≡ outcome_of d (f s) bytes
  arm-outcome exit exit_is c c_is =
      computed d (f s) (f exit) bytes after c gathered-lift (ap f exit_is ∙ sym (ap (λ (x : Fed AnyState). x.state) (feeds s bytes))) c_is

module _ {d : AnyDecoding} {S : Type 0} {small : Table S} {output : S → OutputState} {named : S → AnyState → Type 0}
    (among : IsAmong d small output named) where
  -- the state of the one decoder by which a state is named
  abbrev pub name_by : S → AnyState
  name_by s = (among.total s).0

  pub named-as : (s : S) (t : AnyState) → named s t → name_by s ≡ t
  named-as s t h = among.single s (name_by s) t (among.total s).1 h

  pub named-lifted : IsLifted name_by small (any d)
  named-lifted s o = among.lifted s o (name_by s) (name_by (small s o).state) (among.total s).1 (among.total (small s o).state).1

  pub named-outputs : (s : S) → output s ≡ output_of (name_by s)
  named-outputs s = among.outputs s (name_by s) (among.total s).1
