use Rattle.std.proofs.Common.{refl}
use Rattle.connections.specs.Traffic.{known_of}
use Rattle.gateway.proofs.Heads.{no_comment, refused_more, refused_end, taken_end}
use Rattle.gateway.proofs.traces.head_reader.HeadReader.go_on.Goals as goal

pub returns-in-Some-dropped-clause-takes : goal.returns-in-Some-dropped-clause-takes
returns-in-Some-dropped-clause-takes c =
    let plain = no_comment c.self.inside.comment c.self.inside.begun c.self.inside.parts c.args.bytes.now c.self.inside.lines c.args.self.now
    c.self.view_is c.requires.words in
    let more = rw c.in_default.is at c.take-taken.ensures.line in
    refused_more c.law_lines.ensures c.self.inside.begun c.self.inside.parts c.self.inside.lines c.args.self.now c.args.bytes.now
    (rw plain at c.self.view_is) (rw plain at c.self.invariant) c.requires.may c.requires.words
    _ _ c.dropped-in-Some-dropped.result _ _ more.0 more.1 c.in-Some-dropped.ensures c.dropped-in-Some-dropped.ensures

pub returns-in-Err-clause-takes : goal.returns-in-Err-clause-takes
returns-in-Err-clause-takes c =
    let plain = no_comment c.self.inside.comment c.self.inside.begun c.self.inside.parts c.args.bytes.now c.self.inside.lines c.args.self.now
    c.self.view_is c.requires.words in
    let done = rw c.in-Some.is at c.take-taken.ensures.line in
    refused_end c.law_lines.ensures c.self.inside.begun c.self.inside.parts c.self.inside.lines c.args.self.now c.args.bytes.now
    (rw plain at c.self.view_is) (rw plain at c.self.invariant) c.requires.may c.requires.words
    done.0 (known_of c.in-Some.line) done.2 (Unit {0}) c.in-Err.fault _ _ c.obey_line.new.parts _ c.in-Err.ensures.obeys

pub returns-clause-takes : goal.returns-clause-takes
returns-clause-takes c =
    let plain = no_comment c.self.inside.comment c.self.inside.begun c.self.inside.parts c.args.bytes.now c.self.inside.lines c.args.self.now
    c.self.view_is c.requires.words in
    let done = rw c.in-Some.is at c.take-taken.ensures.line in
    rw plain (taken_end c.law_lines.ensures c.self.inside.begun c.self.inside.parts c.self.inside.lines c.args.self.now c.args.bytes.now
    (rw plain at c.self.view_is) (rw plain at c.self.invariant) c.requires.may c.requires.words
    done.0 (known_of c.in-Some.line) done.2 (Unit {0}) c.in-Ok.field-0 _ _ c.take-taken.new.self c.obey_line.new.parts
    c.take-taken.result.0 _ c.in-Ok.ensures.obeys c.take-taken.ensures.count done.1 refl)
