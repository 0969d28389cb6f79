use Rattle.position_map.proofs.{Words.◌∙◌, Words.ap, Words.min, Listing.listed-in, Listing.listed-page, Listing.listed-places}
use Rattle.position_map.proofs.diagnostic.list_diagnostics.Goals as goal

pub show_errors-requires : goal.show_errors-requires
show_errors-requires c =
    rw c.deref.ensures.value (listed-in c.of-parts.result.doc c.args.from c.min-count.result c.in_ok-errors.errors.items c.in_ok-errors.ensures.errors)

pub returns-clause-page : goal.returns-clause-page
returns-clause-page c =
    let page = rw c.deref.ensures.value at c.in_ok-page.ensures.page in
    rw c.of-parts.ensures.doc
    at (listed-page c.of-parts.result.doc c.args.unit c.args.from c.args.max c.min-count.result c.errors.result c.in_ok-errors.errors.items
    c.in_ok-page.page.items page c.in_ok-errors.ensures.errors
    (c.min-count.ensures ∙ ap (min c.args.max) c.saturating_sub.ensures) c.errors.ensures)

pub returns-clause-places : goal.returns-clause-places
returns-clause-places c = listed-places c.args.doc.now c.args.unit c.args.from c.args.max c.in_ok-page.page.items (returns-clause-page c)
