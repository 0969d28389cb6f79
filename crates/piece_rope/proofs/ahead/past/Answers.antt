use Rattle.piece_rope.proofs.Prelude.{◌≡◌, ◌++◌, ◌∙◌, ℕ, List, ap, sym, encode_utf8_all, encodes-chars, here_of, Outcome}
use Rattle.piece_rope.{specs.Ahead.left_of, proofs.ahead.past.Goals.After-behind}
use Rattle.piece_rope.proofs.ahead.past.Goals as goal

-- the bytes that are looked for
bytes : (c : After-behind) → c.as_bytes.result.now ≡ encode_utf8_all (here_of c.args.piece.now).text
bytes c =
    c.as_bytes.ensures.value
    ∙ sym (encodes-chars c.as_str-text.result.now c.as_str-text.utf8)
    ∙ ap encode_utf8_all (c.as_str-text.ensures ∙ c.text.ensures ∙ ap (λ (o : Outcome). o.text) c.here.ensures)

pub returns-in-Some-behind-clause-on : goal.returns-in-Some-behind-clause-on
returns-in-Some-behind-clause-on c =
    let x = (goal.at.returns-in-Some-behind-clause-on c).After-behind in
    rw c.in-Some.is (c.in-Some-behind.ensures.some ∙ ap (λ (bs : List ℕ). bs ++ left_of c.in-Some-behind.left) (bytes x))

pub returns-in-None-clause-stops : goal.returns-in-None-clause-stops
returns-in-None-clause-stops c =
    let x = (goal.at.returns-in-None-clause-stops c).After-behind in
    rw c.in-Some.is (λ more e. c.in-None.ensures.none more (e ∙ ap (λ (bs : List ℕ). bs ++ more) (sym (bytes x))))
