-- What items remember of the output state is the decoder's behind their ends, taken literally.
use Rattle.std.proofs.{Common.All, lemmas.List.Elements.All-map, lemmas.List.Elements.All-append, lemmas.List.Elements.All-nil}
use Rattle.piece_rope.proofs.Prelude.{◌≡◌, refl, sym, ap, ◌∙◌, subst, ℕ, ◌+◌, ◌-◌, ◌^◌, ◌<◌, true, List, [], ◌∷◌, ◌++◌, take, length, map, Option, Some, None}
use Rattle.piece_rope.proofs.Prelude.{arith, append-nil, append_assoc, length-append, is_some, pos, ◌-ℤ◌, take-append-le, Setting, Files, EndedItem}
use Rattle.piece_rope.proofs.Prelude.{AnyDecoding, AnyState, any, any_start, feed, run, decoder_in, output_of, output_behind, state_behind, Shown, shown_from}
use Rattle.piece_rope.proofs.Prelude.{Ended, Outcome, kept_item, Contents, contents_of, outcome_of, ending_of, items_of_shown, sum_of, Chain, bytes_of}
use Rattle.piece_rope.proofs.Prelude.{Document, IsRope, Entry, here_of, ends_at, output_at, HasOutputs, HaveOutputs, IsKept, document}
use Rattle.piece_rope.proofs.{Counting.here-of, Making.end_of}

-- what is said of decoders' states
pub record StateLaws : Type 0 where
  pub start : (files : Files) (setting : Setting) (d : AnyDecoding) → decoder_in files setting ≡ Some d → any_start d ≡ state_behind files setting []
  pub behind : (files : Files) (setting : Setting) (d : AnyDecoding) (bytes : List ℕ) → decoder_in files setting ≡ Some d
      → (feed (any d) (any_start d) bytes).state ≡ state_behind files setting bytes
  pub state : (files : Files) (setting : Setting) (bytes : List ℕ) → output_of (state_behind files setting bytes) ≡ output_behind files setting bytes
  pub parts : (d : AnyDecoding) (s : AnyState) (p q : List ℕ) → (feed (any d) s (p ++ q)).state ≡ (feed (any d) (feed (any d) s p).state q).state
  pub byte : (files : Files) (setting : Setting) (d : AnyDecoding) (p : List ℕ) (b : ℕ) → decoder_in files setting ≡ Some d
      → All (λ (e : EndedItem). output_of (state_behind files setting (take (length p + 1 - e.back) (p ++ b ∷ [])))
      ≡ output_of (state_behind files setting (p ++ b ∷ []))) (feed (any d) (state_behind files setting p) (b ∷ [])).items
  pub end : (files : Files) (setting : Setting) (d : AnyDecoding) (p : List ℕ) → decoder_in files setting ≡ Some d
      → All (λ (e : EndedItem). output_of (state_behind files setting (take (length p - e.back) p))
      ≡ output_of (state_behind files setting p)) (run (any d) (state_behind files setting p) [])

module _ (doc : Document) (d : AnyDecoding) (chosen : decoder_in doc.indexes doc.setting ≡ Some d) (laws : StateLaws) (bound : length doc.bytes < 2 ^ 64) where
  abbrev state : List ℕ → AnyState
  state p = state_behind doc.indexes doc.setting p

  behind : (bytes : List ℕ) → (feed (any d) (any_start d) bytes).state ≡ state bytes
  behind bytes = laws.behind doc.indexes doc.setting d bytes chosen

  next : (p q : List ℕ) → (feed (any d) (state p) q).state ≡ state (p ++ q)
  next p q = cc (behind p, laws.parts d (any_start d) p q, behind (p ++ q))

  -- of an item that ends `back` bytes before the end of these, of which there are n
  item-output : (base read back n : ℕ) (p rest : List ℕ) → n ≡ base + read → length p ≡ n → doc.bytes ≡ p ++ rest → base + read < 2 ^ 64
      → {after : AnyState} → after ≡ state p → output_of (state (take (n - back) p)) ≡ output_of (state p)
      → output_of after ≡ output_at doc (ends_at base (pos read -ℤ pos back))
  item-output base read back n p rest n_is long whole fits is same =
      let place : ends_at base (pos read -ℤ pos back) ≡ n - back = end_of base read back fits ∙ omega (arith, n_is) in
      let front : take (n - back) doc.bytes ≡ take (n - back) p = ap (take (n - back)) whole ∙ take-append-le (n - back) p rest (omega (arith, long)) in
      ap output_of is ∙ sym same ∙ ap (λ (q : List ℕ). output_of (state q)) (sym front)
      ∙ laws.state doc.indexes doc.setting (take (n - back) doc.bytes) ∙ ap (output_at doc) (sym place)

  -- the items of one byte
  byte-outputs : (base read : ℕ) (p : List ℕ) (b : ℕ) (rest : List ℕ) → length p + 1 ≡ base + read → doc.bytes ≡ (p ++ b ∷ []) ++ rest
      → base + read < 2 ^ 64 → (after : AnyState) → after ≡ state (p ++ b ∷ [])
      → HasOutputs doc base (map (λ (e : EndedItem). kept_item e.item (pos read -ℤ pos e.back) (output_of after)) (feed (any d) (state p) (b ∷ [])).items)
  byte-outputs base read p b rest size whole fits after is =
      let long : length (p ++ b ∷ []) ≡ length p + 1 = omega (arith, length-append p (b ∷ [])) in
      All-map (λ (e : Ended). e.output ≡ output_at doc (ends_at base e.end))
      (λ (e : EndedItem). kept_item e.item (pos read -ℤ pos e.back) (output_of after)) (feed (any d) (state p) (b ∷ [])).items
      (λ k c lt. item-output base read _ (length p + 1) (p ++ b ∷ []) rest size long whole fits is (laws.byte doc.indexes doc.setting d p b chosen k c lt))

  -- of more bytes
  items-append : (xs ys : List (Shown AnyState)) → items_of_shown (xs ++ ys) ≡ items_of_shown xs ++ items_of_shown ys
  items-append [] ys = refl
  items-append (x ∷ xs) ys = ap (λ (es : List Ended). kept_item x.item x.end (output_of x.after) ∷ es) (items-append xs ys)

  shown-kept : (read : ℕ) (after : AnyState) (es : List EndedItem)
      → items_of_shown (map (λ (e : EndedItem). record { item = e.item; end = pos read -ℤ pos e.back; after = after }) es)
      ≡ map (λ (e : EndedItem). kept_item e.item (pos read -ℤ pos e.back) (output_of after)) es
  shown-kept read after [] = refl
  shown-kept read after (e ∷ es) = ap (λ (rest : List Ended). kept_item e.item (pos read -ℤ pos e.back) (output_of after) ∷ rest) (shown-kept read after es)

  shown-outputs : (base read : ℕ) (p bs rest : List ℕ) → length p ≡ base + read → doc.bytes ≡ p ++ (bs ++ rest)
      → HasOutputs doc base (items_of_shown (shown_from (any d) read (state p) bs))
  shown-outputs base read p [] rest size whole = All-nil (λ (e : Ended). e.output ≡ output_at doc (ends_at base e.end))
  shown-outputs base read p (b ∷ bs) rest size whole =
      let f = feed (any d) (state p) (b ∷ []) in
      let all : doc.bytes ≡ (p ++ b ∷ []) ++ (bs ++ rest) = whole ∙ sym (append_assoc p (b ∷ []) (bs ++ rest)) in
      let longer : length (p ++ b ∷ []) ≡ base + (read + 1) = omega (arith, length-append p (b ∷ []), size) in
      let fits : base + (read + 1) < 2 ^ 64 = omega (arith, bound, ap length all, length-append (p ++ b ∷ []) (bs ++ rest), longer) in
      let first = byte-outputs base (read + 1) p b (bs ++ rest) (omega (arith, size)) all fits f.state (next p (b ∷ [])) in
      let later = shown-outputs base (read + 1) (p ++ b ∷ []) bs rest longer all in
      let mapped = map (λ (e : EndedItem). record { item = e.item; end = pos (read + 1) -ℤ pos e.back; after = f.state }) f.items in
      subst (HasOutputs doc base) (sym (items-append mapped (shown_from (any d) (read + 1) f.state bs)))
      (All-append (λ (e : Ended). e.output ≡ output_at doc (ends_at base e.end)) (items_of_shown mapped)
      (items_of_shown (shown_from (any d) (read + 1) f.state bs))
      (subst (HasOutputs doc base) (sym (shown-kept (read + 1) f.state f.items)) first)
      (subst (λ (s : AnyState). HasOutputs doc base (items_of_shown (shown_from (any d) (read + 1) s bs))) (sym (next p (b ∷ []))) later))

  -- of pieces in a row
  chain-outputs : (base : ℕ) (p : List ℕ) (s : AnyState) (ps : List Entry) → s ≡ state p → Chain d s ps → length p ≡ base
      → doc.bytes ≡ p ++ bytes_of ps → HaveOutputs doc base (map here_of ps)
  unfolding outcome_of sum_of
  chain-outputs base p s [] is chain size whole = tt
  chain-outputs base p s (x ∷ ps) is chain size whole =
      let q = x.piece.bytes in
      let own = here-of x (chain.0 ∙ is) chain.1 in
      let bytes : (here_of x).sum.bytes ≡ length q = ap (λ (c : Contents). c.sum.bytes) own in
      let after : (feed (any d) s q).state ≡ state (p ++ q) = ap (λ (t : AnyState). (feed (any d) t q).state) is ∙ next p q in
      let size_here : length (p ++ q) ≡ base + (here_of x).sum.bytes = omega (arith, length-append p q, size, bytes) in (
        subst (HasOutputs doc base) (sym (ap (λ (c : Contents). c.items) own)) (shown-outputs base 0 p q (bytes_of ps) (omega (arith, size)) whole),
        chain-outputs (base + (here_of x).sum.bytes) (p ++ q) (feed (any d) s q).state ps after chain.2 size_here
            (whole ∙ sym (append_assoc p q (bytes_of ps))),
      )

  body-outputs : (ps : List Entry) (end : AnyState) → IsRope d ps end → doc.bytes ≡ bytes_of ps → HaveOutputs doc 0 (map here_of ps)
  body-outputs ps end rope whole = chain-outputs 0 [] (any_start d) ps (laws.start doc.indexes doc.setting d chosen) rope.chain refl whole

  -- of the end
  end-outputs : (ps : List Entry) (tail : Outcome) → IsRope d ps tail.exit → doc.bytes ≡ bytes_of ps
      → contents_of tail ≡ ending_of d tail.exit → HasOutputs doc (length doc.bytes) tail.items
  unfolding ending_of
  end-outputs ps tail rope whole own =
      let s = tail.exit in
      let size = length doc.bytes in
      let exit : s ≡ state doc.bytes = rope.end_is ∙ behind (bytes_of ps) ∙ ap state (sym whole) in
      let given : All (λ (e : EndedItem). output_of (state (take (size - e.back) doc.bytes)) ≡ output_of (state doc.bytes)) (run (any d) s []) =
      subst (λ (t : AnyState). All (λ (e : EndedItem). output_of (state (take (size - e.back) doc.bytes)) ≡ output_of (state doc.bytes))
      (run (any d) t [])) (sym exit) (laws.end doc.indexes doc.setting d doc.bytes chosen) in
      subst (HasOutputs doc size) (sym (ap (λ (c : Contents). c.items) own))
      (All-map (λ (e : Ended). e.output ≡ output_at doc (ends_at size e.end))
      (λ (e : EndedItem). kept_item e.item (pos 0 -ℤ pos e.back) (output_of s)) (run (any d) s [])
      (λ k c lt. item-output size 0 _ size doc.bytes [] (omega arith) refl (sym (append-nil doc.bytes)) (omega (arith, bound)) exit (given k c lt)))

-- of what a document keeps, if there is a decoder
pub held-outputs : (files : Files) (setting : Setting) (ps : List Entry) (tail : Outcome) → StateLaws → IsKept files setting ps tail
    → (o : Option AnyDecoding) → decoder_in files setting ≡ o → is_some o ≡ true
    → let doc = document files setting (bytes_of ps) in HaveOutputs doc 0 (map here_of ps) × HasOutputs doc (length doc.bytes) tail.items
held-outputs files setting ps tail laws kept (Some d) chosen some =
    let doc : Document = document files setting (bytes_of ps) in
    let bound : length doc.bytes < 2 ^ 64 = omega (arith, kept.within) in
    let rope = kept.rope d chosen in
    (body-outputs doc d chosen laws bound ps tail.exit rope refl, end-outputs doc d chosen laws bound ps tail rope refl (kept.tail_is d chosen))
held-outputs files setting ps tail laws kept None chosen some = absurd cc
