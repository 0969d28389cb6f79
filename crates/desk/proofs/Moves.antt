-- What an effect does to the entry at each name.
use Rattle.std.proofs.Common.{◌≡◌, ◌≢◌, ℕ, Bool, cond, List, refl, sym, ap, ◌∙◌, arith, Some, None, Option, bytes_eq}
use Rattle.desk.proofs.Prelude.{nat_list_cmp_total, get, Asked, Office, Outcome, Answers, IsOutcome, effect_of, moved}
use Rattle.desk.proofs.Prelude.{answer_of, Entry, Names, Move, Puts, Stays, Goes, OutOfMemory, Reply, Refused}
use Rattle.std.specs.FinMap as finite
use Rattle.desk.proofs.Names.{same_test}

-- what is held at the name of a command
abbrev pub held_after : Option Entry → Move → Option Entry
held_after found Stays = found
held_after found (Puts h) = Some h
held_after found Goes = None

abbrev pub at_name : Bool → Option Entry → Move → Option Entry
at_name same found move = cond same (held_after found move) found

pub get-moved : (m : Names) (doc d : List ℕ) (move : Move) → get (moved m doc move) d ≡ at_name (bytes_eq doc d) (get m d) move
get-moved m doc d Stays = grind arith
get-moved m doc d (Puts h) = finite.get-insert nat_list_cmp_total m doc h d ∙ ap (λ b. cond b (Some h) (get m d)) (same_test doc d)
get-moved m doc d Goes = finite.get-remove nat_list_cmp_total m doc d ∙ ap (λ b. cond b None (get m d)) (same_test doc d)

-- a reply other than OutOfMemory is the one defined
pub defined : (outcome : Outcome) (reply : Reply) (old new : Names) → IsOutcome outcome reply old new → reply ≢ Refused OutOfMemory
    → outcome ≡ record { reply = reply; documents = new }
defined outcome (Refused OutOfMemory) old new is ne = absurd (ne refl)
defined outcome reply old new is ne = is

module _ (o p : Office) (c : Asked) (reply : Reply) (answers : Answers o c reply p) (ne : reply ≢ Refused OutOfMemory) where
  pub reply_is : (effect_of o c).reply ≡ reply
  reply_is = ap (λ (x : Outcome). x.reply) (defined (answer_of o c) reply o.documents p.documents answers.step ne)

  pub held_is : (d : List ℕ) → get p.documents d ≡ at_name (bytes_eq c.doc d) (get o.documents d) (effect_of o c).move
  held_is d =
      sym (ap (λ (x : Outcome). get x.documents d) (defined (answer_of o c) reply o.documents p.documents answers.step ne))
      ∙ get-moved o.documents c.doc d (effect_of o c).move
