use Rattle.line_protocol.proofs.Prelude.{◌≡◌, ℕ, List, [], ap, refl, ◌∙◌, false, items_of, quoted}
use Rattle.line_protocol.{specs.Writing.front_text, specs.Writing.is_later, proofs.Listing.list-line}
use Rattle.std.proofs.Common.{◌∷◌, ◌++◌}
use Rattle.serde_json.specs.{Data.array, Written.comma_if, Written.compact_text}
use Rattle.line_protocol.proofs.reply_line.lists.list_line.Goals as goal

pub returns : goal.returns
returns g c =
    let front = c.args.front.now in
    let list = array (items_of g.T.Entry.json c.args.entries.now) in
    let begun : c.put_key.new.line ≡ (123 ∷ front_text false front) ++ (comma_if (is_later false front) ++ (quoted c.args.key.now ++ 58 ∷ [])) =
    rw (c.put_key.ensures.text, c.put_front-later.ensures.text, c.put_front-later.ensures.later, c.push.ensures, c.new-text.ensures) refl in
    let put = rw c.as_slice.ensures at c.in_ok-put_list.ensures.text in
    let listed = put
    ∙ ap (λ (t : List ℕ). (t ++ c.put_key.new.line) ++ compact_text list) c.new-line.ensures.items ∙ ap (λ (t : List ℕ). t ++ compact_text list) begun in
    let ended = c.in_ok-move_on.ensures.line
    ∙ ap (λ (t : List ℕ). c.put_list.new.line.items ++ t) (c.push-2.ensures ∙ ap (λ (t : List ℕ). t ++ 10 ∷ []) c.put_all.ensures.text) in
    list-line front c.args.back.now c.args.key.now list c.put_list.new.line.items c.put_list.new.text c.move_on.new.line.items listed ended
