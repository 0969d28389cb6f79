use Rattle.records.proofs.Putting.{with_adoption}
use Rattle.records.proofs.documents.put_document.Goals as goal

pub returns-clause-writes : goal.returns-clause-writes
returns-clause-writes g c =
    with_adoption c.put_adoption.result c.args.held.now c.name.result.now c.setting.result c.revision.result _ _ _ c.in-Ok.ensures.writes
    c.put_adoption.ensures.bytes
    c.name.ensures c.setting.ensures c.revision.ensures c.put_adoption.ensures.writes
