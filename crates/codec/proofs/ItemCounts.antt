-- Decoding gives no more items than there are bytes.
use Rattle.std.proofs.Common.{◌≡◌, refl, ap, ℕ, suc, ◌-◌, ◌≤◌, List, [], ◌∷◌, length, drop, length-drop, arith}
use Rattle.codec.proofs.Prelude.{Setting, Ended, places, lawful_alone, coding, decode, mark_length, in_force}
use Rattle.index_loader.specs.Files.{Files, indexes_of}
use Rattle.codec.proofs.Few.{few-run_from}

length-places : (total from : ℕ) (es : List Ended) → length (places total from es) ≡ length es
length-places total from [] = refl
length-places total from (e ∷ es) = ap suc (length-places total (total - e.back) es)

pub items_are_at_most_bytes : (files : Files) (setting : Setting) (bytes : List ℕ) → length (decode files setting bytes).items ≤ length bytes
unfolding decode
items_are_at_most_bytes files setting bytes =
    let behind = drop (mark_length setting bytes) bytes in
    let indexes = indexes_of files (in_force setting bytes) in
    let law = lawful_alone indexes in
    let few = few-run_from (coding indexes).table law.counts (coding indexes).start behind law.none in
    rw length-places (omega (arith, few, length-drop (mark_length setting bytes) bytes))
