-- A connection that opens, is pumped and closes.
use Rattle.std.proofs.Common.{◌≡◌, ℕ, ◌+◌, ◌<◌, ◌≢◌, List, [], length, None, Some, Result, Err, refl, sym, ap, ◌∙◌, add-zero, get_or-set_other, Option}
use Rattle.devices.specs.{Devices.Reads, Devices.Writes, Reading.Pumps, Reading.ReadSo, Reading.Taken, declared.reading.Stop.Stop}
use Rattle.devices.specs.declared.reading.Stop.TheVariants.{Taker}
use Rattle.connections.specs.declared.serve.{Halt.Halt, Halt.TheVariants.Unkept, Halt.TheVariants.Unwritten, Connection.Connection}
use Rattle.connections.specs.{Delivery.fault_by, Serving.write_failures_of}
use Rattle.connections.proofs.Prelude.{get_or-set_same, Office, Delivered, DeliveredUntil, Begun, line_at, with_line, complete, Serves, Breaks, IsOpen}
use Rattle.connections.proofs.Prelude.{Appends, SameOthers, RanAs, Ran, RanUntil, RanFront, RunGives, Traffic, Partial, Received}
use Rattle.connections.specs.declared.serve.RunFault.TheVariants as fault
use Rattle.connections.proofs.Chains.{Takes, Stops, delivered, delivered_until, delivered_front}

-- connection c opened or closed: this is its line
pub record Put (t u : Traffic) (c : ℕ) (line : Option Partial) : Type 0 where
  pub small : c < length t.lines
  pub is : u ≡ with_line t c line

-- ---- between the two

module _ {c : ℕ} {t u v w : Traffic} (opened : Put t u c (Some (Received []))) (closed : Put v w c None) where
  others : SameOthers u v c → SameOthers t w c
  others same d ne =
      ap (λ s. line_at s d) closed.is ∙ get_or-set_other v.lines c d None None ne ∙ same d ne
      ∙ ap (λ s. line_at s d) opened.is ∙ get_or-set_other t.lines c d (Some (Received [])) None ne

  begun : Begun u c []
  begun = record {
    known = Received [];
    is = ap (λ s. line_at s c) opened.is ∙ get_or-set_same t.lines c (Some (Received [])) None opened.small;
    stands = refl;
  }

  gone : line_at w c ≡ None
  gone = ap (λ s. line_at s c) closed.is ∙ get_or-set_same v.lines c None None closed.small

  ran_as : (answers : Office → List (List ℕ) → List ℕ → Office → Type 0) (x y : Writes) (read out : List ℕ) → Appends x.written y.written out
      → answers u.office (complete [] read) out v.office → SameOthers u v c → RanAs answers c read t w x.written y.written
  ran_as answers x y read out appends answered same = record {
    out = out;
    appends = appends;
    answered = rw closed.is (rw opened.is at answered);
    closed = gone;
    others = others same;
  }

  pub ran : {x y : Writes} {read : List ℕ} → Delivered c read u v x y → Ran c read t w x.written y.written
  ran {x} {y} {read} p = ran_as Serves x y read p.out p.appends (p.serves [] begun) p.others

  pub ran_until : {x y : Writes} {read : List ℕ} → DeliveredUntil c read u v x y → RanUntil c read t w x.written y.written
  ran_until {x} {y} {read} p = ran_as Breaks x y read p.out p.appends (p.breaks [] begun) p.others

-- ---- by how the pump ended

module _ {G W : Type 0} (keeps_all : Type 0) (traffic : G → Traffic) (took : W → Writes) (first last : Reads) (s r : Connection × G × W)
    (is_open : IsOpen (traffic s.1) s.0.c) where
  abbrev pub Pumped : (A : Type 0) → Result A (Stop Halt) → Type 0
  Pumped A result = Pumps {A = A} (Takes traffic took) (Stops traffic took keeps_all) result first last s r

  pub still_open : (A : Type 0) (result : Result A (Stop Halt)) → Pumped A result → IsOpen (traffic r.1) s.0.c
  still_open A (Err (Taker Unwritten)) p = (delivered_until traffic took s is_open keeps_all p.read r p.holds).is_open
  still_open A (Err (Taker Unkept)) p = (delivered_front traffic took s is_open keeps_all p.read r p.holds).is_open
  still_open A result p = (delivered traffic took s is_open p.read r p.holds).is_open

  -- a gateway that keeps all has no bytes that can't be kept
  pub all_kept : (A : Type 0) (stop : Stop Halt) → Pumped A (Err stop) → keeps_all → fault_by stop ≢ fault.Unkept
  all_kept A (Taker Unkept) p keeps e = p.holds.stops.2 keeps
  all_kept A stop p keeps e = cc

  module _ (t w : Traffic) (opened : Put t (traffic s.1) s.0.c (Some (Received []))) (closed : Put (traffic r.1) w s.0.c None) where
    pub runs_fine : ReadSo (λ read. Taken (Takes traffic took) read s r) first last
        → ReadSo (λ read. Ran s.0.c read t w (took s.2).written (took r.2).written) first last × ((took r.2).failures ≡ (took s.2).failures)
    runs_fine p =
        let done = delivered traffic took s is_open p.read r p.holds in
        (record { read = p.read; received = p.received; consumes = p.consumes; holds = ran opened closed done }, done.fine)

    pub runs_stopped : (A B : Type 0) (stop : Stop Halt) → Pumped A (Err stop)
        → RunGives {A = B} (Err (fault_by stop)) s.0.c t w first last (took s.2).written (took r.2).written
        × ((took r.2).failures ≡ (took s.2).failures + write_failures_of {A = B} (Err (fault_by stop)))
    runs_stopped A B (Taker Unwritten) p =
        let done = delivered_until traffic took s is_open keeps_all p.read r p.holds in
        (record { read = p.read; received = p.received; consumes = p.consumes; holds = ran_until opened closed done }, done.failed)
    runs_stopped A B (Taker Unkept) p =
        let done = delivered_front traffic took s is_open keeps_all p.read r p.holds in
        let part : RanFront s.0.c p.read t w (took s.2).written (took r.2).written =
        record { front = p.holds.first; unkept = p.holds.rest; is = p.holds.is; ran = ran opened closed done } in
        (record { read = p.read; received = p.received; consumes = p.consumes; holds = part }, done.fine ∙ sym (add-zero (took s.2).failures))
    runs_stopped A B stop p = let done = runs_fine p in (done.0, done.1 ∙ sym (add-zero (took s.2).failures))
