use Rattle.desk.proofs.Prelude.{ap, Ok, Office, Shelf}
use Rattle.desk.proofs.desk.Desk.new.Goals as goal

pub returns : goal.returns
returns c =
    let office : Shelf → Office = λ s. record { indexes = s.indexes; labels = c.args.labels; documents = s.named; turn = 0 } in
    ap (λ (s : Shelf). Ok (office s)) c.new-documents.ensures
