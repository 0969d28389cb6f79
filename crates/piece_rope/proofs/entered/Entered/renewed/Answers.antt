use Rattle.piece_rope.proofs.Prelude.{◌≡◌, ap, ◌∙◌, rules, Some, None, Contents, Memo, any, feed, recalled, entered, outcome_of, Entry, piece_room}
use Rattle.piece_rope.proofs.Chaining.{laws_of}
use Rattle.piece_rope.proofs.Remembering.{computed, own-shared, own-computed, exit-recalled, known-computed, known-shared, made-spared, renewed-computed}
use Rattle.piece_rope.proofs.Remembering.{renewed-shared}
use Rattle.piece_rope.proofs.entered.Entered.renewed.Goals as goal

pub returns-in-Some-clause-renewed : goal.returns-in-Some-clause-renewed
returns-in-Some-clause-renewed c =
    let found : recalled c.args.self.now.piece.known c.args.entry ≡ Some c.in-Some.outcome.now = search rules in
    let is : c.in_ok-shared.shared.value ≡ c.args.self.now.piece = search rules in
    renewed-shared (laws_of _ c.requires.lawful).laws found is

pub returns-in-Some-clause-own : goal.returns-in-Some-clause-own
returns-in-Some-clause-own c =
    let found : recalled c.args.self.now.piece.known c.args.entry ≡ Some c.in-Some.outcome.now = search rules in
    let is : c.in_ok-shared.shared.value ≡ c.args.self.now.piece = search rules in
    own-shared (laws_of _ c.requires.lawful).laws c.args.entry c.requires.own found is

pub returns-in-Some-clause-exit : goal.returns-in-Some-clause-exit
returns-in-Some-clause-exit c =
    c.exit-exit.ensures
    ∙ exit-recalled (laws_of _ c.requires.lawful).laws c.args.self.now.piece.bytes c.args.self.now.piece.known c.args.entry c.in-Some.outcome.now
    c.requires.own.right (search rules)

-- the piece in which the outcome is put, with the one in front from the state in which it was entered
moved : (c : goal.In_ok-piece-2) → c.move_first.new.self
    ≡ record { bytes = c.args.self.now.piece.bytes; known = entered c.args.self.now.piece.known c.args.self.now.entry }
moved c =
    let is : c.in_ok-piece.piece ≡ c.args.self.now.piece = search rules in
    let from = ap (λ (x : Entry). x.entry) c.self.view_is in
    cc

pub returns-clause-exit : goal.returns-clause-exit
returns-clause-exit c =
    c.exit-exit-2.ensures ∙ ap (λ (o : Contents). o.exit) c.in_ok-outcome.ensures.outcome
    ∙ (laws_of c.args.decoder.now c.requires.lawful).laws.exit c.args.entry _
    ∙ ap (λ (m : Memo). (feed (any c.args.decoder.now) c.args.entry m.bytes).state) (moved c)

-- what the piece is that was computed
made : (c : goal.In_ok-piece-2) → c.in_ok-piece-2.piece.value ≡ computed c.args.self.now c.args.entry c.in_ok-outcome.outcome
made c =
    let room : c.room_in.result ≡ piece_room c.args.self.now.piece.bytes = c.room_in.ensures ∙ ap piece_room c.bytes.ensures in
    made-spared c.args.self.now c.args.entry c.in_ok-outcome.outcome (moved c) c.install.ensures room c.forget.ensures c.in_ok-piece-2.ensures.ok

pub invariant_of-result : goal.invariant_of-result
invariant_of-result c =
    let found : recalled c.args.self.now.piece.known c.args.entry ≡ Some c.in-Some.outcome.now = search rules in
    let is : c.in_ok-shared.shared.value ≡ c.args.self.now.piece = search rules in
    known-shared (laws_of _ c.requires.lawful).laws c.args.self.now c.args.entry found is

pub invariant_of-result-2 : goal.invariant_of-result-2
invariant_of-result-2 c = known-computed (laws_of _ c.requires.lawful).laws c.args.self.now c.args.entry c.in_ok-outcome.outcome (made c)

pub returns-clause-renewed : goal.returns-clause-renewed
returns-clause-renewed c =
    let none : recalled c.args.self.now.piece.known c.args.entry ≡ None = search rules in
    renewed-computed (laws_of _ c.requires.lawful).laws c.in_ok-outcome.outcome none (made c)

pub returns-clause-own : goal.returns-clause-own
returns-clause-own c =
    own-computed (laws_of _ c.requires.lawful).laws c.args.entry c.in_ok-outcome.outcome c.requires.own
    (c.in_ok-outcome.ensures.outcome ∙ ap (λ (m : Memo). outcome_of c.args.decoder.now c.args.entry m.bytes) (moved c)) (made c)
