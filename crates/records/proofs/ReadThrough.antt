-- A record that is read to its end.
use Rattle.std.proofs.Common.{◌≡◌, ℕ, ◌+◌, ◌-◌, ◌<◌, ◌≤◌, List, [], ◌∷◌, take, Result, Ok, Err, IfOk, OnOk, refl, sym, add-zero, length, arith}
use Rattle.std.{proofs.lemmas.List.length-take, specs.Prelude.◌^◌}
use Rattle.devices.specs.{Devices.Reads, Reading.Pumps, Reading.ReadSo, Reading.Taken, Reading.TakenUntil, Reading.TakesEach, Reading.joined}
use Rattle.devices.specs.declared.reading.Stop.{Stop, TheVariants.Taker}
use Rattle.connections.specs.Traffic.{Traffic}
use Rattle.records.specs.Playing.{Place, PlaysOn, PlayStops, PlaysFront, PlaysRead, PlaysGoOn, StopsGoOn}
use Rattle.records.specs.declared.player.PlayFault.{PlayFault}

plays_none : (t : Traffic) (p : Place) → PlaysOn [] t t p p
plays_none t p = record { plays = (refl, refl); begun = refl; count = sym (add-zero (p.whole + length p.line)) }

-- ---- how far it comes

-- how many bytes there were, the line that is begun among them
abbrev so_far : Place → ℕ
so_far p = p.whole + length p.line

more : (n : ℕ) (bytes : List ℕ) (t u : Traffic) (p q : Place) → n ≤ length bytes → PlaysOn (take n bytes) t u p q → so_far q ≡ so_far p + n
more n bytes t u p q within played = let count = played.count in let few = length-take n bytes in omega (arith, count, few, within)

pub ready_after : (r : Result ℕ PlayFault) (bytes : List ℕ) (t u : Traffic) (p q : Place) → IfOk r (λ n. n ≤ length bytes)
    → PlaysFront r bytes t u p q → so_far p < 2 ^ 64 → length bytes ≤ 2 ^ 64 - 1 - so_far p → OnOk r (so_far q < 2 ^ 64)
ready_after (Ok n) bytes t u p q within played ready room = let next = more n bytes t u p q within played in omega (arith, next, within, ready, room)
ready_after (Err fault) bytes t u p q within played ready room = tt

pub room_after : (r : Result ℕ PlayFault) (bytes : List ℕ) (t u : Traffic) (p q : Place) → IfOk r (λ n. n ≤ length bytes) → PlaysFront r bytes t u p q
    → IfOk r (λ n. 2 ^ 64 - 1 - so_far p ≤ 2 ^ 64 - 1 - so_far q + n)
room_after (Ok n) bytes t u p q within played = let next = more n bytes t u p q within played in omega (arith, next)
room_after (Err fault) bytes t u p q within played = tt

-- ---- part by part

module _ {W : Type 0} where
  abbrev pub Plays : List ℕ → Place × Traffic × W → Place × Traffic × W → Type 0
  Plays bytes s t = PlaysOn bytes s.1 t.1 s.0 t.0

  abbrev pub Stops : PlayFault → List ℕ → Place × Traffic × W → Place × Traffic × W → Type 0
  Stops fault bytes s t = PlayStops fault bytes s.1 s.0

  module _ (on : PlaysGoOn) (stopped : StopsGoOn) (s : Place × Traffic × W) where
    each : (parts : List (List ℕ)) (t : Place × Traffic × W) → TakesEach Plays parts s t → Plays (joined parts) s t
    each [] t p = rw p (plays_none s.1 s.0)
    each (part ∷ parts) t p = on _ _ _ _ _ _ (joined parts) part (each parts p.0 p.1) p.2

    all : (bytes : List ℕ) (t : Place × Traffic × W) → Taken Plays bytes s t → Plays bytes s t
    all bytes t p = rw p.is (each p.parts t p.each)

    until : (fault : PlayFault) (bytes : List ℕ) (t : Place × Traffic × W) → TakenUntil Plays (Stops fault) bytes s t → Stops fault bytes s t
    until fault bytes t p = rw p.is (stopped _ _ _ _ p.first p.rest fault (all p.first p.mid p.taken) p.stops)

    module _ (first last : Reads) (t : Place × Traffic × W) where
      read : ReadSo (λ bytes. Taken Plays bytes s t) first last → ReadSo (λ bytes. Plays bytes s t) first last
      read p = record { read = p.read; received = p.received; consumes = p.consumes; holds = all p.read t p.holds }

      pub plays_read : (A : Type 0) (result : Result A (Stop PlayFault)) → Pumps Plays Stops result first last s t → PlaysRead result first last s.1 t.1 s.0 t.0
      plays_read A (Err (Taker fault)) p = record { read = p.read; received = p.received; consumes = p.consumes; holds = until fault p.read t p.holds }
      plays_read A result p = read p
