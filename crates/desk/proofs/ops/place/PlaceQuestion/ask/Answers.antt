use Rattle.desk.proofs.{Prelude.text_of, Prelude.Utf8, Prelude.Utf16, Prelude.entry_of, Place.no_fault, Place.place_answered}
use Rattle.desk.proofs.ops.place.PlaceQuestion.ask.Goals as goal

pub returns-in_err-convert : goal.returns-in_err-convert
returns-in_err-convert c =
    absurd (no_fault (text_of c.args.opened.now.document) Utf8 c.in_ok-offset.offset c.in_err-convert.field-0.0
    c.in_ok-offset.ensures.within c.in_err-convert.ensures.value)

pub returns-in_err-convert-2 : goal.returns-in_err-convert-2
returns-in_err-convert-2 c =
    absurd (no_fault (text_of c.args.opened.now.document) Utf16 c.in_ok-offset.offset c.in_err-convert-2.field-0.0
    c.in_ok-offset.ensures.within c.in_err-convert-2.ensures.value)

pub returns : goal.returns
returns c =
    place_answered c.args.opened.now.document.indexes (entry_of c.args.opened.now) c.args.self.now.unit c.args.self.now.value
    c.in_ok-offset.offset c.in_ok-convert.field-0 c.in_ok-convert-2.field-0 c.scalar_to_place.result
    c.in_ok-offset.ensures.offset c.in_ok-offset.ensures.within c.scalar_to_place.ensures.place c.in_ok-convert.ensures.value c.in_ok-convert-2.ensures.value
