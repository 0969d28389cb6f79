-- What is gathered over a piece is its outcome.
use Rattle.std.proofs.Common.{◌≡◌, refl, sym, ap, subst, ◌∙◌, ℕ, ℤ, ◌+◌, ◌≤◌, List, [], ◌∷◌, ◌++◌, append_assoc, append-nil, fold, length, pos, ◌-ℤ◌}
use Rattle.decoder_core.specs.{declared.item.Ended.Ended as EndedItem, declared.item.Item.Item, Queue.run, Queue.feed}
use Rattle.state_memo.specs.Outcome.{Contents, contents_by, outcome_of, ending_of, text_of_shown, items_of_shown, text_of_ended, items_of_ended}
use Rattle.state_memo.specs.Sums.{sum_of}
use Rattle.state_memo.proofs.Prelude.{Shown, shown_from, OutputState, AnyState, AnyDecoding, any, output_of, Ended, Sum, IsSumOf, IsBounded}
use Rattle.state_memo.proofs.Prelude.{IsDone, Gathered, no_item, with_item, with_shown, with_ended, with_more, all_scalars}
use Rattle.state_memo.proofs.Counted.{bounded-items, counted-items, items_by, text_by}

pub more-nil : (g : Gathered) → g ≡ with_more g [] []
more-nil g = rw (append-nil g.text, append-nil g.items) refl

fold-by : {X : Type 0} (item : X → Item) (end : X → ℤ) (output : X → OutputState) (xs : List X) (g : Gathered)
    → fold (λ (h : Gathered) (x : X). with_item h (item x) (end x) (output x)) g xs ≡ with_more g (text_by item end output xs) (items_by item end output xs)
fold-by item end output [] g = more-nil g
fold-by item end output (x ∷ xs) g =
    rw (fold-by item end output xs (with_item g (item x) (end x) (output x)), append_assoc g.text, append_assoc g.items) refl

-- text and items that are put after those there are
pub taken-is : (g : Gathered) (text new add : List ℕ) (items more run : List Ended) → record { text = text; items = items } ≡ g
    → new ≡ text ++ add → more ≡ items ++ run → record { text = new; items = more } ≡ with_more g add run
taken-is g text new add items more run view text_is items_is = rw (text_is, items_is, ← view) refl

abbrev pub shown_all : List (Shown AnyState) → Gathered
shown_all xs = record { text = text_of_shown xs; items = items_of_shown xs }

abbrev pub ended_all : OutputState → List EndedItem → Gathered
ended_all output es = record { text = text_of_ended es; items = items_of_ended output es }

pub gathered-is : (xs : List (Shown AnyState)) (start after : Gathered) → start ≡ no_item → after ≡ fold (with_shown output_of) start xs → after ≡ shown_all xs
gathered-is xs start after s a = rw (a, s) (fold-by (λ (x : Shown AnyState). x.item) (λ x. x.end) (λ x. output_of x.after) xs no_item)

pub ended-is : (output : OutputState) (es : List EndedItem) (start after : Gathered) → start ≡ no_item
    → after ≡ fold (with_ended output) start es → after ≡ ended_all output es
ended-is output es start after s a = rw (a, s) (fold-by (λ (x : EndedItem). x.item) (λ x. pos 0 -ℤ pos x.back) (λ _. output) es no_item)

pub done : (bytes : ℕ) (xs : List (Shown AnyState)) (after : Gathered) → length xs ≤ bytes + 7 → after ≡ shown_all xs → IsDone bytes after
done bytes xs after few e = subst (IsDone bytes) (sym e) (record {
  counted = counted-items (λ (x : Shown AnyState). x.item) (λ x. x.end) (λ x. output_of x.after) xs;
  bounded = bounded-items (λ (x : Shown AnyState). x.item) (λ x. x.end) (λ x. output_of x.after) bytes xs few;
})

pub done-ending : (output : OutputState) (es : List EndedItem) (after : Gathered) → length es ≤ 7 → after ≡ ended_all output es → IsDone 0 after
done-ending output es after few e = subst (IsDone 0) (sym e) (record {
  counted = counted-items (λ (x : EndedItem). x.item) (λ x. pos 0 -ℤ pos x.back) (λ x. output) es;
  bounded = bounded-items (λ (x : EndedItem). x.item) (λ x. pos 0 -ℤ pos x.back) (λ x. output) 0 es few;
})

pub computed : (d : AnyDecoding) (entry exit : AnyState) (bytes : List ℕ) (after : Gathered) (c : Contents)
    → after ≡ shown_all (shown_from (any d) 0 entry bytes) → exit ≡ (feed (any d) entry bytes).state
    → c ≡ contents_by (length bytes) after exit → c ≡ outcome_of d entry bytes
unfolding outcome_of
computed d entry exit bytes after c after_is exit_is c_is = rw (c_is, after_is, exit_is) refl

pub ended : (d : AnyDecoding) (state : AnyState) (after : Gathered) (c : Contents)
    → after ≡ ended_all (output_of state) (run (any d) state []) → c ≡ contents_by 0 after state → c ≡ ending_of d state
unfolding ending_of
ended d state after c after_is c_is = c_is ∙ ap (λ (g : Gathered). contents_by 0 g state) after_is

-- the facts of an outcome that is made of what was gathered
pub record Finished (cs : List ℕ) (items : List Ended) (s : Sum) : Type 0 where
  pub summed : IsSumOf cs items s
  pub bounded : IsBounded s

sum_of-is : (bytes : ℕ) (cs : List ℕ) (items : List Ended) → length cs ≡ all_scalars items → IsSumOf cs items (sum_of bytes cs items)
unfolding sum_of
sum_of-is bytes cs items e = record { scalars = refl; utf16 = refl; utf8 = refl; errors = refl; marks = refl; lf_first = refl; cr_last = refl; counted = e }

pub finished : (bytes : ℕ) (g : Gathered) (cs : List ℕ) (items : List Ended) (s : Sum) → IsDone bytes g → cs ≡ g.text → items ≡ g.items
    → s ≡ sum_of bytes cs items → Finished cs items s
finished bytes g cs items s done cs_is items_is s_is =
    let d : IsDone bytes (record { text = cs; items = items }) = rw (cs_is, items_is) done in
    rw s_is (record { summed = sum_of-is bytes cs items d.counted; bounded = d.bounded })
