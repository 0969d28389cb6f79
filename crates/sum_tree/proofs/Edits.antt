-- An edit of one element is an edit of the part that has it.
use Rattle.std.proofs.Common.{◌≡◌, ℕ, ◌+◌, ◌-◌, ◌<◌, ◌≤◌, List, ◌++◌, length, ap, sym, ◌∙◌, refl, arith, append_assoc, slice_set}
use Rattle.std.proofs.{Common.insert, Common.remove, lemmas.List.set-append_left, lemmas.List.set-append_right}
use Rattle.std.proofs.lemmas.List.Edits.{insert-append_left, insert-append_right, remove-append_left, remove-append_right}
use Rattle.sum_tree.specs.{Row.Row, Opened.IsTwo, Opened.IsThree, Sums.MonoidLaws, Sums.IsSummable}
use Rattle.sum_tree.proofs.Totals.{summable_front, summable_back}

pub record IsEdit {T : Type 0} (edit : List T → ℕ → List T) : Type 0 where
  pub left : (xs ys : List T) (i : ℕ) → i < length xs → edit (xs ++ ys) i ≡ edit xs i ++ ys
  pub right : (xs ys : List T) (i : ℕ) → length xs ≤ i → edit (xs ++ ys) i ≡ xs ++ edit ys (i - length xs)

pub inserts : {T : Type 0} (x : T) → IsEdit (λ xs i. insert xs i x)
inserts x = record {
  left = λ xs ys i h. insert-append_left xs ys i x (omega arith);
  right = λ xs ys i h. insert-append_right xs ys (length xs) i x refl h;
}

pub removes : {T : Type 0} → IsEdit {T = T} remove
removes = record {
  left = λ xs ys i h. remove-append_left xs ys i h;
  right = λ xs ys i h. remove-append_right xs ys (length xs) i refl h;
}

pub replaces : {T : Type 0} (x : T) → IsEdit (λ xs i. slice_set xs i x)
replaces x = record {
  left = λ xs ys i h. set-append_left xs ys i x h;
  right = λ xs ys i h. set-append_right xs ys (length xs) i x refl h;
}

module _ {T : Type 0} {edit : List T → ℕ → List T} (e : IsEdit edit) where
  pub edit_front : (r a b : List T) (i : ℕ) → r ≡ a ++ b → i < length a → edit r i ≡ edit a i ++ b
  edit_front r a b i p h = ap (λ l. edit l i) p ∙ e.left a b i h

  pub edit_back : (r a b : List T) (i j : ℕ) → r ≡ a ++ b → length a + j ≡ i → edit r i ≡ a ++ edit b j
  edit_back r a b i j p h =
      let n : i - length a ≡ j = omega arith in
      ap (λ l. edit l i) p ∙ e.right a b i (omega arith) ∙ ap (λ k. a ++ edit b k) n

  pub edit_middle : (r a b c : List T) (i j : ℕ) → r ≡ a ++ (b ++ c) → length a + j ≡ i → j < length b → edit r i ≡ a ++ (edit b j ++ c)
  edit_middle r a b c i j p h k = edit_back r a (b ++ c) i j p h ∙ ap (λ l. a ++ l) (e.left b c j k)

  pub edit_last : (r a b c : List T) (i j k : ℕ) → r ≡ a ++ (b ++ c) → length a + j ≡ i → length b + k ≡ j → edit r i ≡ a ++ (b ++ edit c k)
  edit_last r a b c i j k p h m = edit_back r a (b ++ c) i j p h ∙ ap (λ l. a ++ l) (edit_back (b ++ c) b c j k refl m)

  -- two children: the whole after an edit, by what became of the child; and the child can be summed if the whole can
  module _ {r a b : Row T} (t : IsTwo r a b) where
    pub edited_left : {x : List T} (i : ℕ) → x ≡ edit a.items i → i < length a.items → edit r.items i ≡ x ++ b.items
    edited_left i q h = edit_front r.items a.items b.items i t.items h ∙ ap (λ l. l ++ b.items) (sym q)

    pub edited_right : {x : List T} (i j : ℕ) → x ≡ edit b.items j → length a.items + j ≡ i → edit r.items i ≡ a.items ++ x
    edited_right i j q h = edit_back r.items a.items b.items i j t.items h ∙ ap (λ l. a.items ++ l) (sym q)

    module _ {S : Type 0} {fits : S → Type 0} {unit : S} {op : S → S → S} (laws : MonoidLaws unit op) (sum_of : T → S) where
      pub summable_left : ((a b : S) → fits (op a b) → fits a) → (i : ℕ) → i < length a.items
          → IsSummable fits unit op sum_of (edit r.items i) → IsSummable fits unit op sum_of (edit a.items i)
      summable_left left i h = summable_front laws sum_of left _ _ b.items (edit_front r.items a.items b.items i t.items h)

      pub summable_right : ((a b : S) → fits (op a b) → fits b) → (i j : ℕ) → length a.items + j ≡ i
          → IsSummable fits unit op sum_of (edit r.items i) → IsSummable fits unit op sum_of (edit b.items j)
      summable_right right i j h = summable_back laws sum_of right _ a.items _ (edit_back r.items a.items b.items i j t.items h)

  -- the same of three children
  module _ {r a b c : Row T} (t : IsThree r a b c) where
    pub edited_first : {x : List T} (i : ℕ) → x ≡ edit a.items i → i < length a.items → edit r.items i ≡ x ++ (b.items ++ c.items)
    edited_first i q h = edit_front r.items a.items (b.items ++ c.items) i t.items h ∙ ap (λ l. l ++ (b.items ++ c.items)) (sym q)

    pub edited_middle : {x : List T} (i j : ℕ) → x ≡ edit b.items j → length a.items + j ≡ i → j < length b.items → edit r.items i ≡ a.items ++ (x ++ c.items)
    edited_middle i j q h k = edit_middle r.items a.items b.items c.items i j t.items h k ∙ ap (λ l. a.items ++ (l ++ c.items)) (sym q)

    pub edited_last : {x : List T} (i j k : ℕ) → x ≡ edit c.items k → length a.items + j ≡ i → length b.items + k ≡ j
        → edit r.items i ≡ a.items ++ (b.items ++ x)
    edited_last i j k q h m = edit_last r.items a.items b.items c.items i j k t.items h m ∙ ap (λ l. a.items ++ (b.items ++ l)) (sym q)

    -- the child joined with the one next to it
    pub joined_first : {x y : List T} (i : ℕ) → x ≡ edit a.items i → y ≡ x ++ b.items → i < length a.items → edit r.items i ≡ y ++ c.items
    joined_first {x} i q p h = edited_first i q h ∙ sym (append_assoc x b.items c.items) ∙ ap (λ l. l ++ c.items) (sym p)

    pub joined_middle : {x y : List T} (i j : ℕ) → x ≡ edit b.items j → y ≡ a.items ++ x → length a.items + j ≡ i → j < length b.items
        → edit r.items i ≡ y ++ c.items
    joined_middle {x} i j q p h k = edited_middle i j q h k ∙ sym (append_assoc a.items x c.items) ∙ ap (λ l. l ++ c.items) (sym p)

    pub joined_last : {x y : List T} (i j k : ℕ) → x ≡ edit c.items k → y ≡ b.items ++ x → length a.items + j ≡ i → length b.items + k ≡ j
        → edit r.items i ≡ a.items ++ y
    joined_last i j k q p h m = edited_last i j k q h m ∙ ap (λ l. a.items ++ l) (sym p)

    module _ {S : Type 0} {fits : S → Type 0} {unit : S} {op : S → S → S} (laws : MonoidLaws unit op) (sum_of : T → S) where
      pub summable_first : ((a b : S) → fits (op a b) → fits a) → (i : ℕ) → i < length a.items
          → IsSummable fits unit op sum_of (edit r.items i) → IsSummable fits unit op sum_of (edit a.items i)
      summable_first left i h = summable_front laws sum_of left _ _ (b.items ++ c.items) (edit_front r.items a.items (b.items ++ c.items) i t.items h)

      pub summable_middle : ((a b : S) → fits (op a b) → fits a) → ((a b : S) → fits (op a b) → fits b) → (i j : ℕ)
          → length a.items + j ≡ i → j < length b.items
          → IsSummable fits unit op sum_of (edit r.items i) → IsSummable fits unit op sum_of (edit b.items j)
      summable_middle left right i j h k fit =
          let behind = summable_back laws sum_of right (edit r.items i) a.items (edit b.items j ++ c.items)
          (edit_middle r.items a.items b.items c.items i j t.items h k) fit in
          summable_front laws sum_of left (edit b.items j ++ c.items) (edit b.items j) c.items refl behind

      pub summable_last : ((a b : S) → fits (op a b) → fits b) → (i j k : ℕ) → length a.items + j ≡ i → length b.items + k ≡ j
          → IsSummable fits unit op sum_of (edit r.items i) → IsSummable fits unit op sum_of (edit c.items k)
      summable_last right i j k h m fit =
          let behind = summable_back laws sum_of right (edit r.items i) a.items (b.items ++ edit c.items k)
          (edit_last r.items a.items b.items c.items i j k t.items h m) fit in
          summable_back laws sum_of right (b.items ++ edit c.items k) b.items (edit c.items k) refl behind
