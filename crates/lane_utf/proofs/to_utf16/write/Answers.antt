use Rattle.std.proofs.Common.{◌+◌, ◌≤◌, ◌∙◌, ap, subst, length, drop, take, ◌++◌, arith, drop-drop, length-drop, chars, IsUtf8}
use Rattle.std.proofs.lemmas.{List.drop_all, Simd.length-chunk, Str.chars-nil}
use Rattle.lane_utf.specs.Utf16.{utf16_form, utf16_forms}
use Rattle.lane_utf.proofs.{Decoding.ascii-text, Decoding.ascii-forms, Decoding.form-width, Putting.writing_room, Putting.writing_goes_on, Putting.writing_done}
use Rattle.lane_utf.proofs.to_utf16.write.Goals as goal

pub widen-requires-clause-units : goal.widen-requires-clause-units
widen-requires-clause-units c =
    let behind = drop c.text.read c.args.bytes.now in
    let room = writing_room (take 16 behind) _ c.text.invariant.writing (ascii-forms behind 16 (c.is_ascii_block.ensures c.if-is_ascii_block.true)) in
    omega (arith, c.requires.room, c.text.auto.units, room, length-chunk c.text.read 16 c.args.bytes.now (omega arith))

pub text-preserved-then-is_ascii_block : goal.text-preserved-then-is_ascii_block
text-preserved-then-is_ascii_block c =
    let bytes = c.args.bytes.now in
    let behind = drop c.text.read bytes in
    let ascii = c.is_ascii_block.ensures c.if-is_ascii_block.true in
    let within : c.text.read + 16 ≤ length bytes = omega arith in
    let same = drop-drop 16 c.text.read bytes in
    record {
      within = within;
      text = subst IsUtf8 same (ascii-text behind 16 c.text.invariant.text (omega (arith, within, length-drop c.text.read bytes)) ascii);
      writing = writing_goes_on (take 16 behind) _ _ _ c.text.invariant.writing (omega (arith, c.requires.room, c.text.auto.units))
          (ascii-forms behind 16 ascii ∙ ap (λ k. take 16 behind ++ utf16_forms (chars k)) same)
          (omega (arith, length-chunk c.text.read 16 bytes within)) c.widen.ensures;
    }

pub put-written-requires-clause-room : goal.put-written-requires-clause-room
put-written-requires-clause-room c =
    let n = c.next-code_point in
    let room = writing_room (utf16_form n.result.0) _ c.text.invariant.writing (ap utf16_forms n.ensures.first) in
    omega (arith, c.requires.room, c.text.auto.units, room, form-width n.result.0)

pub text-preserved : goal.text-preserved
text-preserved c =
    let n = c.next-code_point in
    let same = drop-drop n.result.1 c.text.read c.args.bytes.now in
    record {
      within = omega (arith, n.ensures.within, length-drop c.text.read c.args.bytes.now, c.text-test.true);
      text = subst IsUtf8 same n.ensures.text;
      writing = writing_goes_on (utf16_form n.result.0) _ _ _ c.text.invariant.writing (omega (arith, c.requires.room, c.text.auto.units))
          (ap utf16_forms n.ensures.first ∙ ap (λ k. utf16_form n.result.0 ++ utf16_forms (chars k)) same)
          (omega (arith, c.put-written.ensures.end, form-width n.result.0)) c.put-written.ensures.units;
    }

pub returns : goal.returns
returns c =
    writing_done c.text.invariant.writing
    (ap (λ k. utf16_forms (chars k)) (drop_all c.text.read c.args.bytes.now c.text-test.false) ∙ ap utf16_forms chars-nil)
