-- Members of two lists in the order of their keys.
use Rattle.std.proofs.Common.{◌≡◌, ℕ, List, [], ◌∷◌, length, refl, sym, ap, rules}
use Rattle.line_protocol.proofs.Prelude.{Members, no_members, member, merged, MemberList, IsNext, members_of, content_data}
use denote.Ref.{Bor}
use Rattle.line_protocol.specs.declared.reply_line.members.Content.{Content}

pub merged_none : (ms : Members) → merged ms no_members ≡ ms
merged_none no_members = refl
merged_none (member k x ms) = refl

-- where the second list is empty, the first one's members come next
pub next_alone : (m : Bor (List ℕ) × Content) (first second rest : MemberList) → first ≡ m ∷ rest → length second ≡ 0 → IsNext first second m rest second
next_alone m first [] rest e none = rw e (record {
  goes_on = ap (member m.0.now (content_data m.1)) (sym (merged_none (members_of rest)));
  plain = search rules;
  room = search rules;
  fewer = search rules;
})
next_alone m first (other ∷ more) rest e none = cc
