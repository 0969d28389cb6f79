use Rattle.std.proofs.Common.{◌∙◌, ◌++◌, ap, arith, ℕ, List}
use Rattle.state_memo.proofs.Prelude.{chars, len_utf8_bounds}
use Rattle.state_memo.proofs.PlainTexts.{first-length, single}
use Rattle.state_memo.proofs.plain.split_first.Goals as goal

pub len_width-requires : goal.len_width-requires
len_width-requires c =
    let s = single (chars c.in_ok-first.first.now) c.in_ok-first.ensures.cut.count in
    let len = first-length c.in_ok-first.first.now (chars c.in_ok-first.first.now) (chars c.args.text.now) s c.in_ok-first.ensures.bytes
    c.in_ok-first.ensures.front in
    omega (arith, len, (len_utf8_bounds s.only).1)

pub returns : goal.returns
returns c =
    let s = single (chars c.in_ok-first.first.now) c.in_ok-first.ensures.cut.count in
    let len = first-length c.in_ok-first.first.now (chars c.in_ok-first.first.now) (chars c.args.text.now) s c.in_ok-first.ensures.bytes
    c.in_ok-first.ensures.front in
    record {
      first = s.only;
      parts = c.in_ok-first.ensures.cut.split ∙ ap (λ (cs : List ℕ). cs ++ chars c.in_ok-first.rest.now) s.is;
      wide = c.len_width.ensures s.only len;
    }
