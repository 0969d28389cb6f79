-- Lists of errors as they are shown, and the visits that they take.
use Rattle.std.proofs.Common.{refl, ℕ, ◌≡◌, sym, ap, ◌∙◌, ◌+◌, ◌-◌, ◌*◌, ◌<◌, ◌≤◌, List, [], ◌∷◌, ◌++◌, length, length-drop, map, take}
use Rattle.position_map.proofs.Words.{drop, min, get_or, arith, Document, errors_of, text_of, TextUnit, ErrorAt, all_errors, diagnostic_at, diagnostics_of}
use Rattle.std.proofs.{Math.Nat.mul-le-mul_right, Math.Nat.suc-mul, lemmas.Option.slice_get-get_or}
use Rattle.std.proofs.lemmas.List.{drop-map, map-append, take-map, take_min, length-take, get_or-take, get_or-drop, take_more}
use Rattle.position_map.{specs.declared.diagnostic.Diagnostic.Diagnostic, proofs.ErrorPieces.diagnostics-count, proofs.ErrorPieces.places-are}
use Rattle.position_map.{specs.Diagnostics.place_in, proofs.Reaching.error-in-text, specs.Reaching.AreErrorsIn}

-- ---- visits

-- a further step that visits no more than each of those before
pub visits-more : (n m k old now new : ℕ) → now ≤ old + n * k → new ≤ now + k → n < m → new ≤ old + m * k
visits-more n m k old now new h g l = omega (arith, suc-mul n k, mul-le-mul_right k l)

-- ---- a part of a list

-- what is listed are errors of the document
pub listed-in : (d : Document) (from count : ℕ) (es : List ErrorAt) → es ≡ take count (drop from (all_errors d)) → AreErrorsIn (text_of d) es
listed-in d from count es e k x l =
    let xs = all_errors d in
    let some : (k < count) × (from + k < length xs) = omega (arith, ap length e, length-take count (drop from xs), length-drop from xs) in
    let there : get_or es k x ≡ get_or xs (from + k) x = rw e (get_or-take count (drop from xs) k x some.0 ∙ get_or-drop from xs k x) in
    rw there (error-in-text d (from + k) (get_or xs (from + k) x) (slice_get-get_or xs (from + k) x some.1))

abbrev pub no_error : ErrorAt
no_error = record { place = record { from = 0; to = 0 }; scalar = 0 }

-- one more error shown
pub shown-more : (text : List ℕ) (unit : TextUnit) (es : List ErrorAt) (page new : List Diagnostic) (i : ℕ) (d : ErrorAt) (x : Diagnostic)
    → page ≡ map (diagnostic_at text unit) (take i es) → new ≡ page ++ x ∷ []
    → i < length es → x ≡ diagnostic_at text unit (get_or es i d) → new ≡ map (diagnostic_at text unit) (take (i + 1) es)
shown-more text unit es page new i d x p e l same =
    let f = diagnostic_at text unit in rw (e, p, same, take_more es i d l) (sym (map-append f (take i es) (get_or es i d ∷ [])))

-- the page of what is listed
pub listed-page : (d : Document) (unit : TextUnit) (from max count total : ℕ) (es : List ErrorAt) (page : List Diagnostic)
    → page ≡ map (diagnostic_at (text_of d) unit) es → es ≡ take count (drop from (all_errors d))
    → count ≡ min max (total - from) → total ≡ length (errors_of d) → page ≡ take max (drop from (diagnostics_of d unit))
unfolding diagnostics_of
listed-page d unit from max count total es page p e count_is total_is =
    let f = diagnostic_at (text_of d) unit in
    let xs = map f (all_errors d) in
    let size : total - from ≡ length (drop from xs) = rw (length-drop from xs, diagnostics-count d unit, total_is) refl in
    rw (p, e, count_is, size, ← take-map f, ← drop-map f from (all_errors d)) (take_min max (drop from xs))

-- its places are those of the document's errors
pub listed-places : (d : Document) (unit : TextUnit) (from max : ℕ) (page : List Diagnostic)
    → page ≡ take max (drop from (diagnostics_of d unit)) → map place_in page ≡ take max (drop from (errors_of d))
listed-places d unit from max page p =
    let xs = diagnostics_of d unit in rw (p, ← places-are d unit) (sym (take-map place_in max (drop from xs)) ∙ ap (take max) (sym (drop-map place_in from xs)))
