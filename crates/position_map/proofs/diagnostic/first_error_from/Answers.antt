use Rattle.position_map.proofs.{Words.◌∙◌, Words.arith, Words.Utf8, ErrorLines.before-end, ErrorLines.before-few, ErrorLines.before-line}
use Rattle.position_map.proofs.diagnostic.first_error_from.Goals as goal

pub returns-in-None-clause-number : goal.returns-in-None-clause-number
returns-in-None-clause-number c = rw c.of-parts.ensures.doc at (c.errors.ensures ∙ before-end c.of-parts.result.doc c.args.line c.in-None.ensures.start)

pub returns-in-Some-clause-number : goal.returns-in-Some-clause-number
returns-in-Some-clause-number c =
    rw c.of-parts.ensures.doc
    at (c.errors_before.ensures.count ∙ before-line c.of-parts.result.doc Utf8 c.args.line c.in-Some.start c.in-Some.ensures.start)

pub returns-in-None-clause-few : goal.returns-in-None-clause-few
returns-in-None-clause-few c = rw (← c.of-parts.ensures.doc) (omega (arith, c.errors.ensures))

pub returns-in-Some-clause-few : goal.returns-in-Some-clause-few
returns-in-Some-clause-few c =
    let d = c.of-parts.result.doc in
    let number = c.errors_before.ensures.count ∙ before-line d Utf8 c.args.line c.in-Some.start c.in-Some.ensures.start in
    rw (number, ← c.of-parts.ensures.doc) (before-few d Utf8 c.args.line)
