-- Lists of changes, element by element.
use Rattle.std.proofs.Common.{◌≡◌, ℕ, suc, ◌<◌, ◌+◌, List, [], ◌∷◌, ◌++◌, length, drop, map, get_or, Option, Some, None, refl, sym, ap, ◌∙◌, append_assoc}
use Rattle.std.proofs.lemmas.List.{drop_more, map-append}
use Rattle.line_protocol.proofs.Prelude.{option_map, TextChange, change_of, items_len, view, items_view, Value, as_change, as_changes}
use Rattle.desk.specs.declared.ops.changes.ContentChange.{ContentChange}

-- as many items as values
pub len_viewed : (vs : List Value) → items_len (items_view vs) ≡ length vs
len_viewed [] = refl
len_viewed (v ∷ vs) = ap suc (len_viewed vs)

-- the changes in the elements that are left, behind those before
abbrev pub behind : List TextChange → Option (List TextChange) → Option (List TextChange)
behind front rest = option_map (λ more. front ++ more) rest

behind_one : (front : List TextChange) (c : TextChange) (rest : Option (List TextChange))
    → behind (front ++ c ∷ []) rest ≡ behind front (option_map (λ more. c ∷ more) rest)
behind_one front c None = refl
behind_one front c (Some more) = ap Some (append_assoc front (c ∷ []) more)

-- one element on
pub goes_on : (cs : List ContentChange) (c : ContentChange) (v : Value) (vs : List Value) → Some (change_of c) ≡ as_change (view v)
    → behind (map change_of (cs ++ c ∷ [])) (as_changes (items_view vs)) ≡ behind (map change_of cs) (as_changes (items_view (v ∷ vs)))
goes_on cs c v vs e = rw (map-append change_of cs (c ∷ []), ← e) (behind_one (map change_of cs) (change_of c) (as_changes (items_view vs)))

-- an element that isn't a change
pub stops : (front : List TextChange) (v : Value) (vs : List Value) → None ≡ as_change (view v) → behind front (as_changes (items_view (v ∷ vs))) ≡ None
stops front v vs e = rw (← e) refl

-- the next element, and those after it
pub next_element : (vs : List Value) (i : ℕ) (v : Value) → i < length vs → v ≡ get_or vs i v → v ∷ drop (i + 1) vs ≡ drop i vs
next_element vs i v within is = ap (λ w. w ∷ drop (i + 1) vs) is ∙ sym (drop_more vs i v within)
