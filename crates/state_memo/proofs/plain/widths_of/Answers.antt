use Rattle.state_memo.proofs.{Prelude.len_utf8_bounds, Prelude.len_utf8, Prelude.width_of, Walking.one-of-four}
use Rattle.state_memo.proofs.plain.widths_of.Goals as goal

pub returns : goal.returns
returns c = λ x. one-of-four _ _ _ _ (len_utf8 x) (width_of c.args.stride x) (c.len_width.ensures x) (c.len_width-2.ensures x)
    (c.len_width-3.ensures x) (c.len_width-4.ensures x) (len_utf8_bounds x).0 (len_utf8_bounds x).1
