-- Tables of labels, one more label at a time.
use Rattle.std.proofs.Common.{◌≡◌, ℕ, ◌+◌, ◌<◌, List, [], ◌∷◌, ◌++◌, length, get_or, take, refl, ap, ◌∙◌, string_bytes}
use Rattle.std.proofs.lemmas.List.{take_more}
use Rattle.enc_names.specs.{declared.encoding.Encoding.Encoding, declared.labels.Label.Label, LabelEntries.table_of, Labels.labels_of, Names.name_of}

pub table_of-append : (xs ys : List Label) → table_of (xs ++ ys) ≡ table_of xs ++ table_of ys
table_of-append [] ys = refl
table_of-append (x ∷ xs) ys = ap (λ t. (string_bytes x.text, x.encoding) ∷ t) (table_of-append xs ys)

pub labels_of-append : (xs ys : List Encoding) → labels_of (xs ++ ys) ≡ labels_of xs ++ labels_of ys
labels_of-append [] ys = refl
labels_of-append (x ∷ xs) ys = ap (λ t. (name_of x, x) ∷ t) (labels_of-append xs ys)

pub labels_of-take_more : (es : List Encoding) (i : ℕ) (d : Encoding) → i < length es
    → labels_of (take (i + 1) es) ≡ labels_of (take i es) ++ (name_of (get_or es i d), get_or es i d) ∷ []
labels_of-take_more es i d h = ap labels_of (take_more es i d h) ∙ labels_of-append (take i es) (get_or es i d ∷ [])
