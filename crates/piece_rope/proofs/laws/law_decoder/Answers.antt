use Rattle.piece_rope.specs.Laws.{IsLawful}
use Rattle.piece_rope.proofs.laws.law_decoder.Goals as goal

pub returns : goal.returns
unfolding IsLawful
returns c =
    let e = c.law_pieces.ensures in
    record {
      laws = record { none = e.none; parts = e.parts; exact = e.exact; same = e.same; exit = e.exit; bytes = e.bytes };
      items = record { runs = e.runs; shown = e.shown; near = e.near };
      joins = e.joined;
    }
