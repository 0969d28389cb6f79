use Rattle.std.proofs.Common.{◌≡◌, ℕ, List, Bool, true, false, None, IsUtf8, refl}
use Rattle.std.{specs.Str.is_utf8, proofs.lemmas.Str.is_utf8-from_IsUtf8, proofs.lemmas.Str.IsUtf8-from_is_utf8}
use Rattle.serde_json.specs.Read.{read}
use Rattle.enc_names.specs.Json.{json_of}
use Rattle.enc_names.proofs.json.parse_json.Goals as goal

-- A text that isn't read has no value, be it UTF-8 or not.
refused : (bytes : List ℕ) (b : Bool) → is_utf8 bytes ≡ b → (IsUtf8 bytes → read bytes ≡ None) → None ≡ json_of bytes
refused bytes true e h = let none = h (IsUtf8-from_is_utf8 bytes e) in rw (e, none) refl
refused bytes false e h = rw e refl

pub returns-in-Ok-clause-ok : goal.returns-in-Ok-clause-ok
returns-in-Ok-clause-ok c =
    let utf8 = is_utf8-from_IsUtf8 c.args.bytes.now c.in-Ok.ensures.ok.0 in
    rw (utf8, c.in-Ok.ensures.ok.1) refl

pub returns-in_default-clause-ok : goal.returns-in_default-clause-ok
returns-in_default-clause-ok c = refused c.args.bytes.now _ refl (c.in-Err.ensures.err (λ is. c.in_default.not-Memory (c.classify.ensures.memory.1 is)))
