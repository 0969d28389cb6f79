use Rattle.piece_rope.proofs.Prelude.{sym, ap, ◌∙◌, ℕ, List, Some, encode_utf8_all, encodes-chars, option_map, written}
use Rattle.piece_rope.proofs.ahead.written_at.Goals as goal

pub returns : goal.returns
returns c =
    ap (λ (bytes : List ℕ). Some bytes)
    (c.as_bytes.ensures.value ∙ sym (encodes-chars c.as_str.result.now c.as_str.utf8) ∙ ap encode_utf8_all (c.as_str.ensures ∙ c.text.ensures))
    ∙ ap (option_map written) c.in_ok-part.ensures
