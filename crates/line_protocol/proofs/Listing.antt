-- The text of a list, entry by entry, and of the members around it.
use Rattle.std.proofs.Common.{◌≡◌, ℕ, Bool, true, false, List, [], ◌∷◌, ◌++◌, append_assoc, refl, sym, ap, ◌∙◌}
use Rattle.serde_json.specs.{Data.array, Data.object, Written.comma_if, Written.compact_text, Written.items_text, Written.members_text}
use Rattle.line_protocol.proofs.Prelude.{Data, Members, member, no_members, merged, MemberList, members_of, content_data, quoted, items_of, line_of}
use Rattle.line_protocol.{specs.Writing.followed, specs.Writing.front_text, specs.Writing.is_later, proofs.Merging.merged_none}

-- what is written so far and the text of the entries that are left are the list, after what preceded it
abbrev pub IsListed : {A : Type 0} → (A → Data) → List A → List A → Bool → List ℕ → List ℕ → Type 0
IsListed json all rest later before now = now ++ items_text later (items_of json rest) ≡ before ++ compact_text (array (items_of json all))

-- ---- members in front of others

later-true : (ms : MemberList) → is_later true ms ≡ true
later-true [] = refl
later-true (m ∷ ms) = refl

member-parts : (comma key text front more : List ℕ) → comma ++ (key ++ 58 ∷ (text ++ (front ++ more))) ≡ ((comma ++ (key ++ 58 ∷ text)) ++ front) ++ more
member-parts comma key text front more = simp append_assoc

front-then : (later : Bool) (ms : MemberList) (more : Members) → members_text later (followed ms more) ≡ front_text later ms
    ++ members_text (is_later later ms) more
front-then later [] more = refl
front-then later (m ∷ ms) more =
    rw (front-then true ms more, later-true ms)
    (member-parts (comma_if later) (quoted m.0.now) (compact_text (content_data m.1)) (front_text true ms) (members_text true more))

line-parts : (front comma key text more : List ℕ) → (((123 ∷ front) ++ (comma ++ (key ++ 58 ∷ []))) ++ text)
    ++ more ≡ 123 ∷ (front ++ (comma ++ (key ++ 58 ∷ (text ++ more))))
line-parts front comma key text more = simp append_assoc

behind : (a b c d : List ℕ) → a ++ ((b ++ c) ++ d) ≡ ((a ++ b) ++ c) ++ d
behind a b c d = simp append_assoc

-- a line of which the members in front, the key and the list were written, with the members after them
pub list-line : (front back : MemberList) (key : List ℕ) (d : Data) (line text last : List ℕ)
    → line ++ text ≡ ((123 ∷ front_text false front) ++ (comma_if (is_later false front) ++ (quoted key ++ 58 ∷ []))) ++ compact_text d
    → last ≡ line ++ ((text ++ members_text true (merged (members_of back) no_members)) ++ 10 ∷ [])
    → last ≡ line_of (object (followed front (member key d (members_of back))))
list-line front back key d line text last e l =
    let more = members_text true (members_of back) in
    let members = rw (merged_none (members_of back)) at l in
    members ∙ behind line text more (10 ∷ [])
    ∙ ap (λ (t : List ℕ). (t ++ more) ++ 10 ∷ []) e
    ∙ ap (λ (t : List ℕ). t ++ 10 ∷ []) (line-parts (front_text false front) (comma_if (is_later false front)) (quoted key) (compact_text d) more)
    ∙ ap (λ (t : List ℕ). (123 ∷ t) ++ 10 ∷ []) (sym (front-then false front (member key d (members_of back))))

-- ---- a position

-- what is written in sequence is the object's text
pub point-parts : (before character first line second : List ℕ)
    → (((((before ++ 123 ∷ []) ++ (comma_if false ++ (character ++ 58 ∷ []))) ++ first) ++ (comma_if true ++ (line ++ 58 ∷ []))) ++ second) ++ 125 ∷ []
    ≡ before ++ 123 ∷ (comma_if false ++ (character ++ 58 ∷ (first ++ (comma_if true ++ (line ++ 58 ∷ (second ++ 125 ∷ []))))))
point-parts before character first line second = simp append_assoc
