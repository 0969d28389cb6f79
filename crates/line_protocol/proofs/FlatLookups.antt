-- What is found in a flat object.
use Rattle.std.proofs.Common.{◌≡◌, ℕ, suc, ◌-◌, ◌<◌, ◌≤◌, List, Some, None, sym, ap, ◌∙◌, arith, get_or, length, take}
use Rattle.std.proofs.{Math.Seq.take-suc, lemmas.List.Sums.fold_push}
use Rattle.serde_json.specs.Data.{Data, no_members, put}
use Rattle.serde_json.{specs.Find.get_member, proofs.Views.get_member-put, proofs.Views.get_member-put_other}
use Rattle.line_protocol.specs.Flat.{Member, value_data, members_data}

-- the first `n` members, by the last of them
by_last : (all : List Member) (n : ℕ) (d : Member) → 0 < n → n ≤ length all
    → (let m = get_or all (n - 1) d in members_data (take n all) ≡ put m.0.now (value_data m.1) (members_data (take (n - 1) all)))
by_last all n d some within =
    let e : n ≡ suc (n - 1) = omega (arith, some) in
    ap members_data (ap (λ k. take k all) e ∙ take-suc all (n - 1) d (omega (arith, some, within)))
    ∙ fold_push (λ found m. put m.0.now (value_data m.1) found) no_members (take (n - 1) all) (get_or all (n - 1) d)

pub found_at : (name : List ℕ) (all : List Member) (n : ℕ) (d : Member) → 0 < n → n ≤ length all → (get_or all (n - 1) d).0.now ≡ name
    → Some (value_data (get_or all (n - 1) d).1) ≡ get_member name (members_data (take n all))
found_at name all n d some within same = rw (by_last all n d some within, same) (sym (get_member-put name _ _))

pub passed_at : (name : List ℕ) (all : List Member) (n : ℕ) (d : Member) → 0 < n → n ≤ length all → ((get_or all (n - 1) d).0.now ≡ name → ⊥)
    → get_member name (members_data (take (n - 1) all)) ≡ get_member name (members_data (take n all))
passed_at name all n d some within other = rw (by_last all n d some within) (sym (get_member-put_other name _ _ _ (λ e. other (sym e))))

-- ---- of two members

module _ (name k l : List ℕ) (d e : Data) where
  pub at_later : name ≡ k → Some d ≡ get_member name (put k d (put l e no_members))
  at_later is = rw is (sym (get_member-put k d (put l e no_members)))

  pub at_earlier : (name ≡ k → ⊥) → name ≡ l → Some e ≡ get_member name (put k d (put l e no_members))
  at_earlier other is = rw (get_member-put_other name k d (put l e no_members) other, is) (sym (get_member-put l e no_members))

  pub at_neither : (name ≡ k → ⊥) → (name ≡ l → ⊥) → None ≡ get_member name (put k d (put l e no_members))
  at_neither other another = sym (get_member-put_other name k d (put l e no_members) other ∙ get_member-put_other name l e no_members another)
