use Rattle.std.proofs.Common.{sym, ap, ◌∙◌, ◌≤◌, length, fold, arith}
use Rattle.std.proofs.lemmas.Bool.Decides.{nat_tests}
use Rattle.decoder_core.specs.Queue.{feed}
use Rattle.codec.specs.Any.{any}
use Rattle.streams.specs.Finding.{Places, with_ended, with_item}
use Rattle.streams.proofs.{Checked.names-full, Checked.names-none, Checked.names-placed, Showing.shown-ended}
use Rattle.streams.proofs.checker.Checker.name_errors.Goals as goal

pub returns-then-errors-eq0 : goal.returns-then-errors-eq0
returns-then-errors-eq0 c = names-none (length c.args.bytes.now) _ c.args.self.now (sym c.requires.errors ∙ c.if-errors-eq0.true)

pub returns-then-is_full : goal.returns-then-is_full
returns-then-is_full c =
    let full : c.self.inside.placing.most ≤ length c.self.inside.placing.found = grind (arith, nat_tests, sym c.is_full.ensures ∙ c.if-is_full.true) in
    rw (← c.self.view_is) (names-full (length c.args.bytes.now) _ _ full)

pub returns : goal.returns
returns c =
    let bytes = c.args.bytes.now in
    let room = rw (← c.self.view_is) at c.requires.room in
    let es = (feed (any c.self.inside.decoder) c.self.inside.state bytes).items in
    rw (← c.self.view_is)
    (names-placed (length bytes) es _ c.run_piece.new.sink room
    (c.in_ok-run_piece.ensures.items
    ∙ shown-ended with_item (length bytes) c.begin.new.self _ es (c.law_one_run.ensures.shown c.self.inside.state bytes)
    ∙ ap (λ (p : Places). fold (with_ended (length bytes)) p es) c.begin.ensures))
