-- What a code point's first byte tells of it.
use Rattle.std.proofs.Common.{◌≡◌, sym, ap, ◌∙◌, ℕ, ◌+◌, ◌<◌, List, [], ◌∷◌, ◌++◌, length, get_or, arith}
use Rattle.std.proofs.Math.Utf8.{encode, encodes}
use Rattle.lemmas.proofs.Texts.{lead-encode}
use Rattle.state_memo.proofs.Prelude.{length-encode, len_utf8, IsUtf8, continuation_len}

-- the text begins with a code point, whose first byte is `lead`
pub record IsNext (bytes : List ℕ) (lead : ℕ) : Type 0 where
  pub code_point : ℕ
  pub rest : List ℕ
  pub parts : bytes ≡ encode code_point ++ rest
  pub len : continuation_len lead + 1 ≡ len_utf8 code_point

pub next-is : (bytes : List ℕ) (lead : ℕ) → IsUtf8 bytes → 0 < length bytes → lead ≡ get_or bytes 0 0 → IsNext bytes lead
next-is bytes lead ([], s) some lead_is = absurd (omega (arith, some, ap length s.1))
next-is bytes lead (c ∷ cs, s) some lead_is = record {
  code_point = c;
  rest = encodes cs;
  parts = sym s.1;
  len = ap (λ (b : ℕ). continuation_len b + 1) (lead_is ∙ ap (λ (bs : List ℕ). get_or bs 0 0) (sym s.1)) ∙ lead-encode c (encodes cs) ∙ length-encode c;
}
