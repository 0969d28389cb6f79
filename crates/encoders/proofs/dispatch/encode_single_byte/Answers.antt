use Rattle.std.proofs.{Common.chars, Common.sym, Common.eqb-true, StrCases.chars_of_empty}
use Rattle.encoders.{specs.Encode.is_html, proofs.Bytewise.front-encoded, proofs.Bytewise.whole-encoded}
use Rattle.encoders.proofs.dispatch.encode_single_byte.Goals as goal

pub returns-then-is_empty : goal.returns-then-is_empty
returns-then-is_empty c =
    whole-encoded c.args.index.now (is_html c.args.mode) (chars c.args.text.now) c.in_ok-bytes.bytes.items (chars c.in_ok-bytes.rest.now) c.in_ok-bytes.ensures
    (chars_of_empty c.in_ok-bytes.rest.now (eqb-true _ 0 (sym c.if-is_empty.ensures)))

pub returns-in_ok-extend_from_slice-in-Ok : goal.returns-in_ok-extend_from_slice-in-Ok
returns-in_ok-extend_from_slice-in-Ok c =
    rw (c.in_ok-extend_from_slice-in-Ok.ensures.items, c.deref.ensures.value)
    (front-encoded c.args.index.now (is_html c.args.mode) (chars c.args.text.now) c.in_ok-bytes.bytes.items (chars c.in_ok-bytes.rest.now)
    c.in-Ok.others.items c.in_ok-bytes.ensures c.in-Ok.ensures)
