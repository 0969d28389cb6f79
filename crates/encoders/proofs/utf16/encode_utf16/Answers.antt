use Rattle.std.proofs.Common.{arith, length, ◌<◌, ◌∙◌, sym}
use Rattle.std.proofs.lemmas.{Bool.Decides.nat_tests, Str.IsUtf8-take, Str.IsUtf8-drop}
use Rattle.encoders.proofs.Utf16Forms.{part-some, parts-go-on, parts-end}
use Rattle.encoders.proofs.utf16.encode_utf16.Goals as goal

pub parts-smaller : goal.parts-smaller
parts-smaller c =
    let rest = c.parts.rest.now in
    let some : 0 < length rest = Prim.grind (arith, nat_tests, c.is_empty.ensures, c.parts-test.true) in
    let front = part-some rest c.floor_char_boundary.result c.parts.invariant.0 some c.floor_char_boundary.ensures.nearest in
    Prim.omega (arith, front, c.split_at.ensures.back_len)

pub parts-preserved : goal.parts-preserved
parts-preserved c =
    let rest = c.parts.rest.now in
    let end = c.floor_char_boundary.result in
    let here = c.floor_char_boundary.ensures.boundary in
    let valid = c.parts.invariant.0 in (
      rw c.split_at.ensures.back (IsUtf8-drop rest end valid here),
      c.parts.invariant.1 ∙ parts-go-on c.law_forms.ensures.joined c.args.order rest _ _ _ _ end
          (rw c.split_at.ensures.front (IsUtf8-take rest end valid here)) c.split_at.ensures.front c.split_at.ensures.back c.in_ok-put_part.ensures,
    )

pub returns : goal.returns
returns c = parts-end c.args.order c.parts.rest.now c.parts.bytes.items _ (sym c.is_empty.ensures ∙ c.parts-test.false) c.parts.invariant.1
