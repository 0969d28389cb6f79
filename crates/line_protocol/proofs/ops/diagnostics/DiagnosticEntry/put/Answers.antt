use Rattle.std.proofs.Common.{◌≡◌, ℕ, List, [], ◌∷◌, ◌++◌, append_assoc}
use Rattle.std.specs.Fmt.{decimal}
use Rattle.line_protocol.proofs.ops.diagnostics.DiagnosticEntry.put.Goals as goal

-- what is written in sequence is the list's text
list-parts : (before begin comma behind from to line character last end : List ℕ)
    → ((((((((((before ++ begin) ++ (from ++ (comma ++ to))) ++ comma) ++ line) ++ comma) ++ character) ++ comma) ++ last) ++ comma) ++ end) ++ behind
    ≡ before ++ (begin ++ (from ++ (comma ++ (to ++ (comma ++ (line ++ (comma ++ (character ++ (comma ++ (last ++ (comma ++ (end ++ behind))))))))))))
list-parts before begin comma behind from to line character last end = simp append_assoc

pub returns-clause-text : goal.returns-clause-text
returns-clause-text c =
    let place = c.args.self.now.place in
    let range = c.args.self.now.range in
    rw (c.push-6.ensures, c.put-4.ensures.text, c.go_on-2.ensures, c.push-5.ensures, c.put-3.ensures.text, c.go_on.ensures, c.push-4.ensures)
    (rw (c.put-2.ensures.text, c.of-character.ensures, c.push-3.ensures, c.put.ensures.text, c.of-line.ensures, c.push-2.ensures, c.put_near.ensures.text)
    (rw c.push.ensures (list-parts c.args.text.now (91 ∷ []) (44 ∷ []) (93 ∷ []) (decimal place.from) (decimal place.to) (decimal range.start.line)
    (decimal range.start.character) (decimal range.end.line) (decimal range.end.character))))
