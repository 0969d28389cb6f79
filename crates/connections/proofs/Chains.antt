-- What was delivered before, and what is delivered next.
use Rattle.std.proofs.Common.{◌≡◌, ℕ, ◌+◌, List, [], ◌∷◌, ◌++◌, refl, sym, ap, ◌∙◌, subst, append_assoc}
use Rattle.devices.specs.{Devices.Writes, Reading.Taken, Reading.TakenUntil, Reading.TakesEach, Reading.joined}
use Rattle.connections.specs.declared.serve.{Halt.Halt, Halt.TheVariants.Unkept, Halt.TheVariants.Unwritten, Connection.Connection}
use Rattle.connections.proofs.Prelude.{Appends-trans, Appends-nil, Office, IsOpen, Delivered, DeliveredUntil, Halts, Serves, Breaks, Traffic}
use Rattle.connections.proofs.Cuts.{complete-append, unfinished-append}

pub Serves-append : (o m n : Office) (xs ys : List (List ℕ)) (a b : List ℕ) → Serves o xs a m → Serves m ys b n → Serves o (xs ++ ys) (a ++ b) n
Serves-append o m n [] ys a b p q = rw p.0 (subst (λ x. Serves x ys b n) p.1 q)
Serves-append o m n (x ∷ xs) ys a b p q =
    (p.0, p.1, p.2 ++ b, p.3, ap (λ l. l ++ b) p.4 ∙ append_assoc p.1 p.2 b, Serves-append p.0 m n xs ys p.2 b p.5 q)

pub Serves-Breaks : (o m n : Office) (xs ys : List (List ℕ)) (a b : List ℕ) → Serves o xs a m → Breaks m ys b n → Breaks o (xs ++ ys) (a ++ b) n
Serves-Breaks o m n xs ys a b p q = record {
  first = xs ++ q.first;
  last = q.last;
  more = q.more;
  cut = ap (λ l. xs ++ l) q.cut ∙ sym (append_assoc xs q.first (q.last ∷ q.more));
  sent = a ++ q.sent;
  part = q.part;
  unsent = q.unsent;
  mid = q.mid;
  serves = Serves-append o m q.mid xs q.first a q.sent p q.serves;
  fails = q.fails;
  short = q.short;
  front = ap (λ l. a ++ l) q.front ∙ sym (append_assoc a q.sent q.part);
}

-- ---- bytes that were delivered

Delivered-nil : (c : ℕ) (t : Traffic) (x : Writes) → IsOpen t c → Delivered c [] t t x x
Delivered-nil c t x is_open = record {
  out = [];
  appends = Appends-nil x.written;
  fine = refl;
  serves = λ line b. (refl, refl);
  is_open = is_open;
  begun = λ line b. b;
  others = λ d ne. refl;
}

Delivered-trans : (c : ℕ) (a b : List ℕ) (t u v : Traffic) (x y z : Writes) → Delivered c a t u x y → Delivered c b u v y z → Delivered c (a ++ b) t v x z
Delivered-trans c a b t u v x y z p q = record {
  out = p.out ++ q.out;
  appends = Appends-trans x.written y.written z.written p.out q.out p.appends q.appends;
  fine = q.fine ∙ p.fine;
  serves = λ line begun.
      rw (complete-append line a b) (Serves-append t.office u.office v.office _ _ p.out q.out (p.serves line begun) (q.serves _ (p.begun line begun)));
  is_open = q.is_open;
  begun = λ line begun. rw (unfinished-append line a b) (q.begun _ (p.begun line begun));
  others = λ d ne. q.others d ne ∙ p.others d ne;
}

Delivered-DeliveredUntil : (c : ℕ) (a b : List ℕ) (t u v : Traffic) (x y z : Writes) → Delivered c a t u x y → DeliveredUntil c b u v y z
    → DeliveredUntil c (a ++ b) t v x z
Delivered-DeliveredUntil c a b t u v x y z p q = record {
  out = p.out ++ q.out;
  appends = Appends-trans x.written y.written z.written p.out q.out p.appends q.appends;
  failed = q.failed ∙ ap (λ n. n + 1) p.fine;
  breaks = λ line begun.
      rw (complete-append line a b) (Serves-Breaks t.office u.office v.office _ _ p.out q.out (p.serves line begun) (q.breaks _ (p.begun line begun)));
  is_open = q.is_open;
  others = λ d ne. q.others d ne ∙ p.others d ne;
}

-- ---- one part after another, by an open connection, whose number stays

module _ {G W : Type 0} (traffic : G → Traffic) (took : W → Writes) where
  abbrev pub Takes : List ℕ → Connection × G × W → Connection × G × W → Type 0
  Takes bytes s t = (t.0.c ≡ s.0.c) × Delivered s.0.c bytes (traffic s.1) (traffic t.1) (took s.2) (took t.2)

  abbrev pub Stops : Type 0 → Halt → List ℕ → Connection × G × W → Connection × G × W → Type 0
  Stops keeps_all halt bytes s t = Halts keeps_all halt s.0.c bytes (traffic s.1) (traffic t.1) (took s.2) (took t.2)

  module _ (s : Connection × G × W) (is_open : IsOpen (traffic s.1) s.0.c) where
    each : (parts : List (List ℕ)) (t : Connection × G × W) → TakesEach Takes parts s t → Takes (joined parts) s t
    each [] t p = rw p (refl, Delivered-nil s.0.c (traffic s.1) (took s.2) is_open)
    each (part ∷ parts) t p =
        let before = each parts p.0 p.1 in
        (p.2.0 ∙ before.0, Delivered-trans s.0.c (joined parts) part _ _ _ _ _ _ before.1 (rw before.0 at p.2.1))

    pub delivered : (bytes : List ℕ) (t : Connection × G × W) → Taken Takes bytes s t → Delivered s.0.c bytes (traffic s.1) (traffic t.1) (took s.2) (took t.2)
    delivered bytes t p = rw p.is (each p.parts t p.each).1

    pub delivered_until : (keeps_all : Type 0) (bytes : List ℕ) (t : Connection × G × W) → TakenUntil Takes (Stops keeps_all Unwritten) bytes s t
        → Stops keeps_all Unwritten bytes s t
    delivered_until keeps_all bytes t p =
        let before = each p.taken.parts p.mid p.taken.each in
        rw p.is (Delivered-DeliveredUntil s.0.c p.first p.rest _ _ _ _ _ _ (delivered p.first p.mid p.taken) (rw before.0 at p.stops))

    pub delivered_front : (keeps_all : Type 0) (bytes : List ℕ) (t : Connection × G × W) (p : TakenUntil Takes (Stops keeps_all Unkept) bytes s t)
        → Delivered s.0.c p.first (traffic s.1) (traffic t.1) (took s.2) (took t.2)
    delivered_front keeps_all bytes t p = rw (p.stops.0, p.stops.1) (delivered p.first p.mid p.taken)
