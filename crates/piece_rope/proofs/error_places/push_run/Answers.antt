use Rattle.std.proofs.Common.{◌≡◌, refl, sym, ◌∙◌, ◌+◌, [], ◌∷◌, ◌++◌, take, drop, length-drop, arith, rules, add-one, append_assoc}
use Rattle.piece_rope.proofs.{Prelude.errors_at, Prelude.items_of_run, Erring.errors_at-length, Erring.erring, Erring.lone-error}
use Rattle.lemmas.proofs.Lists.{at-behind, element, take-next}
use Rattle.piece_rope.proofs.error_places.push_run.Goals as goal

pub items-preserved : goal.items-preserved
items-preserved c =
    let all = errors_at c.args.base c.args.from (items_of_run c.args.run.now) in
    let done = c.items.done in
    let place = c.in-Some.place in
    let here = at-behind all c.args.n done (c.args.n + done) place refl (sym c.in-Some.ensures) in
    let more : c.push_reserved-in-items.new.self.items ≡ c.items.places.items ++ place ∷ [] = search rules in
    let rest = drop c.args.n all in
    let taken = take-next rest done place here in
    record {
      high = omega (arith, c.items-test.true);
      places = cc (more, c.items.invariant.places, add-one done, taken, append_assoc c.args.places.now.items (take done rest) (place ∷ []));
      len = omega (arith, c.push_reserved-in-items.ensures.len, c.items.invariant.len);
      capacity = c.push_reserved-in-items.ensures.capacity ∙ c.items.invariant.capacity;
    }

pub returns-in_default-clause-count : goal.returns-in_default-clause-count
returns-in_default-clause-count c =
    let all = errors_at c.args.base c.args.from (items_of_run c.args.run.now) in
    let long = errors_at-length c.args.base c.args.from (items_of_run c.args.run.now) in
    let p = element all (c.args.n + c.items.done)
    (omega (arith, c.items-test.true, c.min-count.ensures, c.saturating_sub.ensures, c.errors.ensures, long)) in
    absurd (cc (p.1, c.in_default.ensures))

pub returns-after-items-clause-count : goal.returns-after-items-clause-count
returns-after-items-clause-count c =
    let long = errors_at-length c.args.base c.args.from (items_of_run c.args.run.now) in
    let rest = length-drop c.args.n (errors_at c.args.base c.args.from (items_of_run c.args.run.now)) in
    let high = c.items.invariant.high in
    omega (arith, high, c.items-test.false, c.min-count.ensures, c.saturating_sub.ensures, c.errors.ensures, rest, long)

-- the places of a run that is one error
alone : (c : goal.After-push_reserved) → errors_at c.args.base c.args.from (items_of_run c.args.run.now)
    ≡ record { from = c.args.from; to = c.args.behind } ∷ []
alone c = rw (c.requires.behind)
    (lone-error c.args.base c.args.from c.args.run.now (omega (arith, c.if-run-eq0.true)) (erring c.args.run.now c.args.n c.requires.there))

pub returns-then-run-eq0-clause-count : goal.returns-then-run-eq0-clause-count
returns-then-run-eq0-clause-count c =
    let none : c.args.n ≡ 0 = omega (arith, c.if-n-eq0.true) in
    rw (alone c, none) (omega (arith, c.if-most-gt0.true))

pub returns-then-run-eq0-clause-places : goal.returns-then-run-eq0-clause-places
returns-then-run-eq0-clause-places c =
    let none : c.args.n ≡ 0 = omega (arith, c.if-n-eq0.true) in
    rw (alone c, none) c.push_reserved.ensures.items
