-- Bytes that were taken, and more bytes.
use Rattle.std.proofs.Common.{◌≡◌, ℕ, List, [], ◌∷◌, ◌++◌, Err, refl, sym, ap, ◌∙◌, subst, append_assoc, append-nil}
use Rattle.std.proofs.KnownBytes.{Consumes-trans}
use Rattle.devices.specs.{Devices.Reads, Reading.Pumps, Reading.ReadSo, Reading.Taken, Reading.TakenUntil, Reading.TakesEach, Reading.joined}
use Rattle.devices.specs.declared.reading.Stop.{Stop, TheVariants.Read, TheVariants.TooManyReads, TheVariants.Taker}

joined-append : (later earlier : List (List ℕ)) → joined (later ++ earlier) ≡ joined earlier ++ joined later
joined-append [] earlier = sym (append-nil (joined earlier))
joined-append (part ∷ later) earlier = ap (λ l. l ++ part) (joined-append later earlier) ∙ append_assoc (joined earlier) (joined later) part

module _ {S : Type 0} (Takes : List ℕ → S → S → Type 0) where
  each-append : (later earlier : List (List ℕ)) (s t u : S) → TakesEach Takes earlier s t → TakesEach Takes later t u → TakesEach Takes (later ++ earlier) s u
  each-append [] earlier s t u p q = subst (TakesEach Takes earlier s) (sym q) p
  each-append (part ∷ later) earlier s t u p q = (q.0, each-append later earlier s t q.0 p q.1, q.2)

  pub taken-none : (s : S) → Taken Takes [] s s
  taken-none s = record { parts = []; is = refl; each = refl }

  pub taken-more : (a b : List ℕ) (s t u : S) → Taken Takes a s t → Takes b t u → Taken Takes (a ++ b) s u
  taken-more a b s t u p q = record { parts = b ∷ p.parts; is = ap (λ l. l ++ b) p.is; each = (t, p.each, q) }

  pub taken-trans : (a b : List ℕ) (s t u : S) → Taken Takes a s t → Taken Takes b t u → Taken Takes (a ++ b) s u
  taken-trans a b s t u p q = record {
    parts = q.parts ++ p.parts;
    is = ap (λ l. l ++ b) p.is ∙ ap (λ l. joined p.parts ++ l) q.is ∙ sym (joined-append q.parts p.parts);
    each = each-append q.parts p.parts s t u p.each q.each;
  }

  pub taken-until : (Stops : List ℕ → S → S → Type 0) (a b : List ℕ) (s t u : S) → Taken Takes a s t → Stops b t u → TakenUntil Takes Stops (a ++ b) s u
  taken-until Stops a b s t u p q = record { first = a; rest = b; is = refl; mid = t; taken = p; stops = q }

  taken-then : (Stops : List ℕ → S → S → Type 0) (a b : List ℕ) (s t u : S) → Taken Takes a s t → TakenUntil Takes Stops b t u
      → TakenUntil Takes Stops (a ++ b) s u
  taken-then Stops a b s t u p q = record {
    first = a ++ q.first;
    rest = q.rest;
    is = ap (λ l. a ++ l) q.is ∙ sym (append_assoc a q.first q.rest);
    mid = q.mid;
    taken = taken-trans a q.first s t q.mid p q.taken;
    stops = q.stops;
  }

-- ---- bytes that were read, and more bytes

pub read-more : (P Q T : List ℕ → Type 0) (x y z : Reads) → ((a b : List ℕ) → P a → Q b → T (a ++ b)) → ReadSo P x y → ReadSo Q y z → ReadSo T x z
read-more P Q T x y z join p q = record {
  read = p.read ++ q.read;
  received = q.received ∙ ap (λ l. l ++ q.read) p.received ∙ append_assoc x.received p.read q.read;
  consumes = Consumes-trans x.left y.left z.left p.read q.read p.consumes q.consumes;
  holds = join p.read q.read p.holds q.holds;
}

module _ {S F : Type 0} (Takes : List ℕ → S → S → Type 0) (Stops : F → List ℕ → S → S → Type 0) (s t u : S) (x y z : Reads)
    (p : ReadSo (λ read. Taken Takes read s t) x y) where
  pub pumps-more : ReadSo (λ read. Taken Takes read t u) y z → ReadSo (λ read. Taken Takes read s u) x z
  pumps-more q = read-more _ _ _ x y z (λ a b. taken-trans Takes a b s t u) p q

  pub pumps-until : (A B : Type 0) (stop : Stop F) → Pumps {A = A} Takes Stops (Err stop) y z t u → Pumps {A = B} Takes Stops (Err stop) x z s u
  pumps-until A B Read q = pumps-more q
  pumps-until A B TooManyReads q = pumps-more q
  pumps-until A B (Taker f) q = read-more _ _ _ x y z (λ a b. taken-then Takes (Stops f) a b s t u) p q
