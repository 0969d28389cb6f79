-- What a decoder does among all decoders.
use Rattle.std.proofs.Common.{◌≡◌, sym, ap, ◌∙◌, subst, List, ℕ, length, fold, Result, Ok, Err, OnOk, IfOk}
use Rattle.decoder_core.specs.{Lift.IsLifted, Lift.lift_fed, Queue.Table, Queue.Fed, Queue.feed}
use Rattle.codec.specs.{declared.state.AnyState.AnyState, Any.AnyDecoding, Any.any}
use Rattle.streams.specs.{Among.IsAmong, Gathering.Gathered, Gathering.with_ended}

pub OnOk-weaker : {A E : Type 0} (r : Result A E) {P Q : Type 0} → (P → Q) → OnOk r P → OnOk r Q
OnOk-weaker (Ok x) f p = f p
OnOk-weaker (Err e) f p = tt

pub IfOk-weaker : {A E : Type 0} (r : Result A E) {P Q : A → Type 0} → ((x : A) → P x → Q x) → IfOk r P → IfOk r Q
IfOk-weaker (Ok x) f p = f x p
IfOk-weaker (Err e) f p = tt

pub IfOk-three : {A E : Type 0} (r : Result A E) {P Q R S : A → Type 0} → ((x : A) → P x → Q x → R x → S x) → IfOk r P → IfOk r Q → IfOk r R → IfOk r S
IfOk-three (Ok x) f p q r = f x p q r
IfOk-three (Err e) f p q r = tt

module _ {d : AnyDecoding} {S : Type 0} {small : Table S} {named : S → AnyState → Type 0} (among : IsAmong d small named) where
  -- the state of the one decoder by which a state is named
  abbrev pub name_by : S → AnyState
  name_by s = (among.total s).0

  pub named-as : (s : S) (t : AnyState) → named s t → name_by s ≡ t
  named-as s t h = among.single s (name_by s) t (among.total s).1 h

  pub named-lifted : IsLifted name_by small (any d)
  named-lifted s o = among.lifted s o (name_by s) (name_by (small s o).state) (among.total s).1 (among.total (small s o).state).1

  module _ (feeds : (s : S) (q : List ℕ) → feed (any d) (name_by s) q ≡ lift_fed name_by (feed small s q)) where
    fed : (s : S) (entry : AnyState) (q : List ℕ) → named s entry → feed (any d) entry q ≡ lift_fed name_by (feed small s q)
    fed s entry q is = subst (λ (t : AnyState). feed (any d) t q ≡ lift_fed name_by (feed small s q)) (named-as s entry is) (feeds s q)

    pub fed-state : (s after : S) (entry exit : AnyState) (q : List ℕ) → named s entry → named after exit → after ≡ (feed small s q).state
        → exit ≡ (feed (any d) entry q).state
    fed-state s after entry exit q is ends same =
        sym (named-as after exit ends) ∙ ap name_by same ∙ sym (ap (λ (f : Fed AnyState). f.state) (fed s entry q is))

    pub fed-items : (s : S) (entry : AnyState) (q : List ℕ) (old new : Gathered) → named s entry
        → new ≡ fold (with_ended (length q)) old (feed small s q).items → new ≡ fold (with_ended (length q)) old (feed (any d) entry q).items
    fed-items s entry q old new is same =
        same ∙ sym (ap (λ (f : Fed AnyState). fold (with_ended (length q)) old f.items) (fed s entry q is))
