-- What the pieces and the end answer is what decoding from scratch answers.
use Rattle.state_memo.specs.Facts.{IsSumOf}
use Rattle.piece_rope.proofs.Prelude.{◌≡◌, refl, sym, ap, ◌∙◌, ℕ, ◌+◌, List, [], ◌∷◌, ◌++◌, map, take-append-drop, Option, AllLaws, flat_map-append, Placed}
use Rattle.piece_rope.proofs.Prelude.{code_points, error_place, error_places, item_code_points, Outcome, Document, text_of, decoded_text, decoded, document}
use Rattle.piece_rope.proofs.Prelude.{Entry, here_of, texts_of, items_of, sums_of, AreMade, IsWhole, body_of, tail_of, count_body, AnyDecoding, Setting, Files}
use Rattle.piece_rope.proofs.Prelude.{bytes_of, IsKept}

pub total-numbers : {d : AnyDecoding} → AllLaws d → (ps : List Entry) → IsSumOf (texts_of ps) (items_of ps) (sums_of ps)
total-numbers all [] = record { scalars = refl; utf16 = refl; utf8 = refl; errors = refl; marks = refl; lf_first = refl; cr_last = refl; counted = refl }
total-numbers all (p ∷ ps) = all.joins (here_of p).text (texts_of ps) (here_of p).items (items_of ps) (here_of p).sum (sums_of ps)
    (here_of p).summed (total-numbers all ps)

pub code_points-append : (xs ys : List Placed) → code_points (xs ++ ys) ≡ code_points xs ++ code_points ys
code_points-append xs ys = flat_map-append (λ (p : Placed). item_code_points p.item) xs ys

made-text : (base : ℕ) (is : List Placed) (ps : List Entry) → AreMade base is (map here_of ps) → code_points is ≡ texts_of ps
made-text base is [] made = ap code_points made
made-text base is (p ∷ ps) (own, rest, split, here, more) = cc (code_points-append own rest, here.text, made-text (base + (here_of p).sum.bytes) rest ps more)

pub text-whole : (doc : Document) (ps : List Entry) (tail : Outcome) → IsWhole doc (map here_of ps) tail → text_of doc ≡ texts_of ps ++ tail.text
unfolding decoded_text
text-whole doc ps tail whole =
    let cut = take-append-drop (count_body doc) (decoded doc).items in
    cc (cut, code_points-append (body_of doc) (tail_of doc), made-text 0 (body_of doc) ps whole.made, whole.ended.text)

-- the same of the document that contracts see
pub text-seen : {files : Files} {setting : Setting} {ps : List Entry} {tail : Outcome} {earlier : Option (List ℕ)} {self : Document}
    → record (document files setting (bytes_of ps)) { earlier = earlier } ≡ self → IsKept files setting ps tail → text_of self ≡ texts_of ps ++ tail.text
text-seen {files} {setting} {ps} {tail} view_is kept =
    ap text_of (sym view_is) ∙ text-whole (document files setting (bytes_of ps)) ps tail kept.whole

pub error_places-append : (xs ys : List Placed) → error_places (xs ++ ys) ≡ error_places xs ++ error_places ys
error_places-append xs ys = flat_map-append (λ (p : Placed). error_place p.item (record { from = p.from; to = p.to })) xs ys
