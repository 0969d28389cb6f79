use Rattle.position_map.proofs.Words.{ℕ, sym, ap, ◌∙◌, true, false, List, ◌++◌, append-nil, Ok, chars, err_from_is_err_and}
use Rattle.position_map.proofs.Planning.{refused_iso, put_iso}
use Rattle.position_map.proofs.plan.put_iso.Goals as goal

pub returns-in_err-bytes : goal.returns-in_err-bytes
returns-in_err-bytes c =
    let e = err_from_is_err_and c.from_residual.result c.from_residual.ensures.1 in
    rw (e.1, e.2) (refused_iso c.args.parts.doc _ c.indexes.ensures c.args.left.output c.args.right.output c.args.right.at
    (chars c.args.text.now) c.in_err-bytes.field-0.0 c.in_err-bytes.ensures)

pub returns-then-same_output : goal.returns-then-same_output
returns-then-same_output c =
    put_iso c.args.parts.doc _ c.indexes.ensures c.args.left.output c.args.right.output c.args.right.at (chars c.args.text.now) c.in_ok-bytes.state
    c.in_ok-bytes.bytes.items true true c.in_ok-bytes.ensures (sym c.if-same_output.true ∙ c.same_output.ensures) (λ no. cc)
    ∙ ap Ok (append-nil c.in_ok-bytes.bytes.items)

pub returns-then-escape_follows : goal.returns-then-escape_follows
returns-then-escape_follows c =
    put_iso c.args.parts.doc _ c.indexes.ensures c.args.left.output c.args.right.output c.args.right.at (chars c.args.text.now) c.in_ok-bytes.state
    c.in_ok-bytes.bytes.items false true c.in_ok-bytes.ensures (sym c.if-same_output.false ∙ c.same_output.ensures)
    (λ _. sym c.if-escape_follows.true ∙ c.in-Ok.ensures) ∙ ap Ok (append-nil c.in_ok-bytes.bytes.items)

pub returns : goal.returns
returns c =
    put_iso c.args.parts.doc _ c.indexes.ensures c.args.left.output c.args.right.output c.args.right.at (chars c.args.text.now) c.in_ok-bytes.state
    c.in_ok-bytes.bytes.items false false c.in_ok-bytes.ensures (sym c.if-same_output.false ∙ c.same_output.ensures)
    (λ _. sym c.if-escape_follows.false ∙ c.in-Ok.ensures)
    ∙ ap Ok (sym (c.in_ok-extend_from_slice.ensures.items ∙ ap (λ (x : List ℕ). c.in_ok-bytes.bytes.items ++ x) c.escape_of.ensures))
