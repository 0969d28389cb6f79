-- What an edit makes of a document's pieces, and what it costs.
use Rattle.std.proofs.Common.{◌⊎◌}
use Rattle.piece_rope.proofs.Prelude.{◌≡◌, refl, sym, ap, subst, ℕ, zero, suc, ◌+◌, ◌-◌, ◌*◌, ◌≤◌, List, [], ◌∷◌, ◌++◌, take, drop, length, arith, append_assoc}
use Rattle.piece_rope.proofs.Prelude.{append-nil, length-append, length-drop, take-append-drop, inl, inr, Window, length-take-le, length-take, drop-drop}
use Rattle.piece_rope.proofs.Prelude.{take-append-le, drop_all, take-append_seam, drop-append_seam, take-add, feed, AnyDecoding, AnyState, any, any_start}
use Rattle.piece_rope.proofs.Prelude.{Entry, Chain, bytes_of, state_after, renewed, AreSized, longest, shortest, IsRope, exchanged, Metered, Passed}
use Rattle.piece_rope.proofs.Prelude.{LastDiffers, bytes_before, Spans, IsRoomy, cases_lt, Laws, element, Option, Some, take-append-add, IfSome, state_behind}
use Rattle.piece_rope.proofs.Prelude.{Resyncs, Document, spliced}
use Rattle.piece_rope.proofs.Chaining.{bytes-append, chain-append, chain-parts, state-append, entry-at, renewed-bytes, chain-drop}
use Rattle.piece_rope.proofs.{Editing.sized-append, Counting.bytes-split, Counting.before-le, Counting.before-step}

-- the bytes of the first pieces and of the others
pub bytes-first : (ps : List Entry) (k : ℕ) → take (bytes_before ps k) (bytes_of ps) ≡ bytes_of (take k ps)
bytes-first ps k = cc (bytes-split ps k, take-append_seam (bytes_of (take k ps)) (bytes_of (drop k ps)))

pub bytes-rest : (ps : List Entry) (k : ℕ) → drop (bytes_before ps k) (bytes_of ps) ≡ bytes_of (drop k ps)
bytes-rest ps k = cc (bytes-split ps k, drop-append_seam (bytes_of (take k ps)) (bytes_of (drop k ps)))

sized-take : (least n : ℕ) (ps : List Entry) → AreSized least ps → AreSized least (take n ps)
sized-take least zero ps s = tt
sized-take least (suc n) [] s = tt
sized-take least (suc n) (p ∷ ps) s = (s.0, s.1, sized-take least n ps s.2)

sized-drop : (least n : ℕ) (ps : List Entry) → AreSized least ps → AreSized least (drop n ps)
sized-drop least zero ps s = s
sized-drop least (suc n) [] s = tt
sized-drop least (suc n) (p ∷ ps) s = sized-drop least n ps s.2

sized-renewed : (least : ℕ) (ps : List Entry) (rs : List Entry) → AreSized least ps → AreSized least (renewed ps rs)
sized-renewed least ps [] s = s
sized-renewed least [] (r ∷ rs) s = tt
sized-renewed least (p ∷ ps) (r ∷ rs) s = (s.0, s.1, sized-renewed least ps rs s.2)

renewed-none : (rs : List Entry) → renewed [] rs ≡ []
renewed-none [] = refl
renewed-none (r ∷ rs) = refl

short-list : (first last : ℕ) (ps fresh : List Entry) (rs : List Entry) → first ≡ 0 → last ≡ length ps
    → length (take first ps ++ (fresh ++ renewed (drop last ps) rs)) ≡ length fresh
short-list first last ps fresh rs first_is last_is = cc (drop_all last ps (omega arith), renewed-none rs, append-nil fresh)

-- pieces of which each is wide, if there are several, and otherwise none
wide-part : (ps part : List Entry) → (2 ≤ length ps → AreSized shortest ps) → (AreSized shortest ps → AreSized shortest part)
    → (length ps ≤ 1 → part ≡ []) → AreSized shortest part
wide-part ps part wide on sole = elim (cases_lt (length ps) 2) [
  | inl few ↦ subst (λ (xs : List Entry). AreSized shortest xs) (sym (sole (omega (arith, few)))) tt
  | inr many ↦ on (wide many)
]

module _ {d : AnyDecoding} (laws : Laws d) where
  -- bytes after which states agree, m bytes after an edit
  pub agree-on : (start : AnyState) (x y Q later : List ℕ) (m : ℕ) → m ≤ length Q
      → (feed (any d) start (x ++ take m (Q ++ later))).state ≡ (feed (any d) start (y ++ take m (Q ++ later))).state
      → (feed (any d) start (x ++ Q)).state ≡ (feed (any d) start (y ++ Q)).state
  agree-on start x y Q later m within same =
      let cut : (z : List ℕ) → z ++ Q ≡ (z ++ take m (Q ++ later)) ++ drop m Q =
      λ (z : List ℕ). cc (take-append-drop m Q, append_assoc z (take m Q) (drop m Q), take-append-le m Q later within) in
      let on = λ (z : List ℕ). laws.parts start (z ++ take m (Q ++ later)) (drop m Q) in
      cc (cut x, cut y, on x, on y)

  -- the renewed pieces end soon after the place at which the states agree
  passed-count : (start from entry : AnyState) (x y b : List ℕ) (ps : List Entry) (m old new count : ℕ)
      → from ≡ (feed (any d) start (x ++ b)).state → entry ≡ (feed (any d) start (y ++ b)).state → Chain d from ps → AreSized 1 ps
      → count ≤ length ps → LastDiffers d entry ps count → new ≤ old + length (bytes_of (take count ps))
      → (feed (any d) start (x ++ take m (b ++ bytes_of ps))).state ≡ (feed (any d) start (y ++ take m (b ++ bytes_of ps))).state
      → (new ≤ old) ⊎ (new + length b ≤ old + (m + longest))
  passed-count start from entry x y b ps m old new zero from_is entry_is chain small within differs most same = inl (omega (arith, most))
  passed-count start from entry x y b ps m old new (suc j) from_is entry_is chain small within differs most same =
      let T = bytes_of (take j ps) in
      let Q = b ++ T in
      let q : length Q ≡ length b + length T = length-append b T in
      elim (cases_lt (length Q) m) [
        | inl l ↦ inr (omega (arith, l, q, most, before-step ps j small))
        | inr h ↦
            let p = element ps j (omega (arith, within)) in
            let whole : Q ++ bytes_of (drop j ps) ≡ b ++ bytes_of ps = cc (append_assoc b T (bytes_of (drop j ps)), bytes-split ps j) in
            let agreed = agree-on start x y Q (bytes_of (drop j ps)) m h (rw whole same) in
            let here = entry-at laws from ps j p.0 chain p.1 in
            absurd (differs j p.0 refl p.1
            (cc (here, agreed, laws.parts start (x ++ b) T, laws.parts start (y ++ b) T, append_assoc x b T, append_assoc y b T)))
      ]

-- an edit of the bytes from `at` to `to`, where the bytes of its window are to be `middle`
module _ {d : AnyDecoding} (laws : Laws d) {ps : List Entry} {at to : ℕ} (ins : List ℕ) {middle : List ℕ} {w : Window} (spans : Spans ps at to (2 * longest) w)
    (middle_is : middle ≡ take (at - w.start) (drop w.start (bytes_of ps)) ++ (ins ++ take (w.end - to) (drop to (bytes_of ps)))) where
  abbrev bytes : List ℕ
  bytes = bytes_of ps

  abbrev rest : List Entry
  rest = drop w.last ps

  -- the bytes of the window that stay
  abbrev front : List ℕ
  front = take (at - w.start) (drop w.start bytes)

  abbrev back : List ℕ
  back = take (w.end - to) (drop to bytes)

  front-long : length front ≤ at - w.start
  front-long = omega (arith, length-take (at - w.start) (drop w.start bytes))

  back-long : length back ≤ w.end - to
  back-long = omega (arith, length-take (w.end - to) (drop to bytes))

  middle-long : length middle ≡ length front + (length ins + length back)
  middle-long = omega (arith, ap length middle_is, length-append front (ins ++ back), length-append ins back)

  -- the bytes, cut where the edit cuts them
  before-at : take at bytes ≡ bytes_of (take w.first ps) ++ front
  before-at =
      let e : at ≡ w.start + (at - w.start) = omega (arith, spans.front) in
      cc (e, spans.start, take-add w.start (at - w.start) bytes, bytes-first ps w.first)

  before-rest : bytes_of (take w.last ps) ≡ take to bytes ++ back
  before-rest =
      let e : w.end ≡ to + (w.end - to) = omega (arith, spans.back) in
      cc (e, spans.end, bytes-first ps w.last, take-add to (w.end - to) bytes)

  from-to : drop to bytes ≡ back ++ bytes_of rest
  from-to =
      let e : to + (w.end - to) ≡ w.end = omega (arith, spans.back) in
      cc (e, spans.end, take-append-drop (w.end - to) (drop to bytes), drop-drop (w.end - to) to bytes, bytes-rest ps w.last)

  -- what the new pieces and the renewed ones hold
  pub edited-bytes : (fresh rs : List Entry) → bytes_of fresh ≡ middle → bytes_of (take w.first ps ++ (fresh ++ renewed rest rs)) ≡ exchanged bytes at to ins
  edited-bytes fresh rs own =
      let A = bytes_of (take w.first ps) in
      let R = bytes_of rest in
      let parts : bytes_of (take w.first ps ++ (fresh ++ renewed rest rs)) ≡ A ++ (middle ++ R) =
      cc (own, bytes-append (take w.first ps) (fresh ++ renewed rest rs), bytes-append fresh (renewed rest rs), renewed-bytes rest rs) in
      cc (parts, middle_is, append_assoc front (ins ++ back) R, append_assoc ins back R, append_assoc A front (ins ++ (back ++ R)), before-at, from-to)

  pub metered : {entry : AnyState} (old mid new : ℕ) → Chain d (any_start d) ps → AreSized 1 ps
      → entry ≡ (feed (any d) (any_start d) ((take at bytes ++ ins) ++ back)).state
      → mid ≤ old + length middle → Passed d entry rest mid new → Metered d bytes at to ins old new
  metered {entry} old mid new chain small entry_is most passed =
      let from = state_after d (any_start d) (take w.last ps) in
      let from_is : from ≡ (feed (any d) (any_start d) (take to bytes ++ back)).state =
      ap (λ (bs : List ℕ). (feed (any d) (any_start d) bs).state) before-rest in
      let rest_long : length bytes - to ≡ length back + length (bytes_of rest) =
      omega (arith, length-drop to bytes, ap length from-to, length-append back (bytes_of rest)) in
      record {
        most = λ m agrees. elim (cases_lt m (length bytes - to)) [
          | inl l ↦
              let same = rw from-to at (agrees l) in
              elim (passed-count laws (any_start d) from entry (take to bytes) (take at bytes ++ ins) back rest m mid new passed.count from_is entry_is
              (chain-drop laws (any_start d) w.last ps chain) (sized-drop 1 w.last ps small) passed.within passed.differs passed.most (sym same)) [
                | inl none ↦ omega (arith, none, most, middle-long, front-long, back-long, spans.near, spans.close)
                | inr some ↦ omega (arith, some, most, middle-long, front-long, spans.near)
              ]
          | inr h ↦ omega (arith, h, passed.most, before-le rest passed.count, rest_long, most, middle-long, front-long, spans.near)
        ];
      }

  -- refused before it continued
  pub metered-early : (old new : ℕ) → new ≤ old + length middle → Metered d bytes at to ins old new
  metered-early old new most = record { most = λ m agrees. omega (arith, most, middle-long, front-long, back-long, spans.near, spans.close) }

  -- the state after the new pieces
  pub behind-middle : {entry exit : AnyState} → entry ≡ state_after d (any_start d) (take w.first ps) → exit ≡ (feed (any d) entry middle).state
      → exit ≡ (feed (any d) (any_start d) ((take at bytes ++ ins) ++ back)).state
  behind-middle entry_is exit_is =
      let A = bytes_of (take w.first ps) in
      let all : A ++ middle ≡ (take at bytes ++ ins) ++ back =
      cc (middle_is, before-at, append_assoc A front (ins ++ back), append_assoc (take at bytes) ins back) in
      cc (all, laws.parts (any_start d) A middle)

  pub edited-rope : {entry behind end exit : AnyState} (fresh rs : List Entry) → IsRope d ps end → IsRoomy ps at to (length ins) w → at ≤ to → to ≤ length bytes
      → entry ≡ state_after d (any_start d) (take w.first ps) → bytes_of fresh ≡ middle → Chain d entry fresh → behind ≡ (feed (any d) entry middle).state
      → AreSized 1 fresh → (shortest ≤ length middle → AreSized shortest fresh) → (length middle ≤ longest → length fresh ≤ 1)
      → Chain d behind (renewed rest rs) → exit ≡ state_after d behind rest → IsRope d (take w.first ps ++ (fresh ++ renewed rest rs)) exit
  edited-rope {entry} {behind} fresh rs rope roomy order within entry_is own chain behind_is small wide few later exit_is =
      let A = take w.first ps in
      let R = renewed rest rs in
      let behind_fresh : behind ≡ state_after d entry fresh = cc (behind_is, own) in
      let before = (chain-parts laws (any_start d) A (drop w.first ps) (rw (take-append-drop w.first ps) rope.chain)).0 in
      let after : Chain d entry (fresh ++ R) = chain-append laws entry fresh R chain (rw behind_fresh at later) in
      let front_all : length front ≡ at - w.start =
      length-take-le (at - w.start) (drop w.start bytes) (omega (arith, length-drop w.start bytes, order, within)) in
      let end_within : w.end ≤ length bytes = omega (arith, spans.end, before-le ps w.last) in
      let back_all : length back ≡ w.end - to = length-take-le (w.end - to) (drop to bytes) (omega (arith, length-drop to bytes, end_within)) in
      record {
        chain = chain-append laws (any_start d) A (fresh ++ R) before (rw entry_is at after);
        end_is = cc (exit_is, behind_fresh, entry_is, renewed-bytes rest rs, state-append laws entry fresh R, state-append laws (any_start d) A (fresh ++ R));
        sizes = record {
          small = sized-append 1 A (fresh ++ R) (sized-take 1 w.first ps rope.sizes.small)
              (sized-append 1 fresh R small (sized-renewed 1 rest rs (sized-drop 1 w.last ps rope.sizes.small)));
          wide = λ many. elim (cases_lt (length middle) 512) [
            | inl short ↦
                let first : w.first ≡ 0 = elim (cases_lt 0 w.first) [
                  | inl l ↦ absurd (omega (arith, roomy.in_front l, middle-long, front_all, back_all, short))
                  | inr h ↦ omega (arith, h)
                ] in
                let last : w.last ≡ length ps = elim (cases_lt w.last (length ps)) [
                  | inl l ↦ absurd (omega (arith, roomy.behind l, middle-long, front_all, back_all, short))
                  | inr h ↦ omega (arith, h, spans.within)
                ] in
                absurd (omega (arith, many, few (omega (arith, short)), short-list w.first w.last ps fresh rs first last))
            | inr enough ↦
                let in_front = wide-part ps A rope.sizes.wide (sized-take shortest w.first ps) (λ one. ap (λ (n : ℕ). take n ps) (roomy.sole one).0) in
                let later = wide-part ps rest rope.sizes.wide (sized-drop shortest w.last ps) (λ one. drop_all w.last ps (omega (arith, (roomy.sole one).1))) in
                sized-append shortest A (fresh ++ R) in_front (sized-append shortest fresh R (wide enough) (sized-renewed shortest rest rs later))
          ];
        };
      }

-- the new bytes up to `m` after the edit
new-front : (bytes ins : List ℕ) (at to m : ℕ) → at ≤ length bytes → take (at + length ins + m) ((take at bytes ++ ins) ++ drop to bytes)
    ≡ (take at bytes ++ ins) ++ take m (drop to bytes)
new-front bytes ins at to m l =
    let long : at + length ins + m ≡ length (take at bytes ++ ins) + m = omega (arith, length-append (take at bytes) ins, length-take-le at bytes l) in
    cc (long, take-append-add (take at bytes ++ ins) (drop to bytes) m)

pub metered-cut : (doc : Document) (d : AnyDecoding) (at del start to old new : ℕ) (ins : List ℕ) (chosen : Option AnyDecoding) → chosen ≡ Some d
    → IfSome chosen (λ (e : AnyDecoding). (bytes : List ℕ) → (feed (any e) (any_start e) bytes).state ≡ state_behind doc.indexes doc.setting bytes)
    → at + del ≤ length doc.bytes → start ≡ at → to ≡ at + del → Metered d doc.bytes start to ins old new
    → (m : ℕ) → Resyncs doc at del ins m → new ≤ old + (length ins + m + 4 * longest)
metered-cut doc d at del start to old new ins chosen chosen_is behind within start_is to_is metered m resyncs =
    let B = doc.bytes in
    let same : (bytes : List ℕ) → (feed (any d) (any_start d) bytes).state ≡ state_behind doc.indexes doc.setting bytes = rw chosen_is at behind in
    let front = (take start B ++ ins) ++ take m (drop to B) in
    let back = take to B ++ take m (drop to B) in
    let cut : take (at + del + m) B ≡ back = cc (take-add to m B) in
    let new_cut : take (at + length ins + m) (spliced B at del ins) ≡ front = cc (new-front B ins at to m (omega (arith, within))) in
    metered.most m (λ l. cc (same front, same back, cut, new_cut, resyncs (omega (arith, l, to_is))))

-- the same of the document that contracts see
pub metered-as : {doc self : Document} → doc ≡ self → (at del old new : ℕ) (ins : List ℕ)
    → ((m : ℕ) → Resyncs doc at del ins m → new ≤ old + (length ins + m + 4 * longest))
    → (m : ℕ) → Resyncs self at del ins m → new ≤ old + (length ins + m + 4 * longest)
metered-as same at del old new ins metered =
    subst (λ (x : Document). (m : ℕ) → Resyncs x at del ins m → new ≤ old + (length ins + m + 4 * longest)) same metered
