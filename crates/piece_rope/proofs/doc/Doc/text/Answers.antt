use Rattle.std.proofs.Common.{ap, sym, ◌∙◌, ◌-◌, ℕ, List, take, drop, length, arith, string_bytes}
use Rattle.piece_rope.proofs.{Prelude.encode_utf8_all, Prelude.encodes-chars, Prelude.IsUtf8-string_bytes, Answering.text-seen}
use Rattle.piece_rope.proofs.doc.Doc.text.Goals as goal

pub text_between-requires-clause-within : goal.text_between-requires-clause-within
text_between-requires-clause-within c = omega (arith, ap length (text-seen c.self.view_is c.self.invariant.kept))

pub returns-clause-chars : goal.returns-clause-chars
returns-clause-chars c =
    c.in_ok-text.ensures
    ∙ ap (λ (cs : List ℕ). take (c.args.j - c.args.i) (drop c.args.i cs)) (sym (text-seen c.self.view_is c.self.invariant.kept))

pub returns-clause-ok : goal.returns-clause-ok
returns-clause-ok c =
    sym (encodes-chars (string_bytes c.in_ok-text.text) (IsUtf8-string_bytes c.in_ok-text.text))
    ∙ ap encode_utf8_all (c.in_ok-text.ensures
    ∙ ap (λ (cs : List ℕ). take (c.args.j - c.args.i) (drop c.args.i cs)) (sym (text-seen c.self.view_is c.self.invariant.kept)))
