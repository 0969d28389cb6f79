-- What a document keeps is its own, and so are the numbers that it keeps.
use Rattle.piece_rope.proofs.Prelude.{◌≡◌, refl, sym, ap, ◌∙◌, ℕ, ◌+◌, ◌^◌, ◌<◌, ◌≤◌, true, false, List, [], ◌∷◌, ◌++◌, take, drop, length, slice_get, Option}
use Rattle.piece_rope.proofs.Prelude.{Some, arith, rules, append_assoc, append-nil, length-append, inl, inr, Setting, Files, has_files, AnyDecoding, AnyState}
use Rattle.piece_rope.proofs.Prelude.{any, any_start, feed, decoder_in, decode, places, run, mark_of, mark_length, marks, total_width, utf16_width, utf8_width}
use Rattle.piece_rope.proofs.Prelude.{Outcome, Sum, joined, contents_of, ending_of, Entry, texts_of, items_of, sums_of, Chain, bytes_of, Document, document}
use Rattle.piece_rope.proofs.Prelude.{decoded, text_of, errors_of, last_from, Place, IsRope, exchanged, document_limit, spliced, IsKept, AreCounted, AreSized}
use Rattle.piece_rope.proofs.Prelude.{CanJoin, HasSizes, longest, shortest, cases_lt, AllLaws, Laws}
use Rattle.piece_rope.proofs.Counting.{chain-counted, few-pieces, short-of, sums-bytes}
use Rattle.piece_rope.proofs.Erring.{errors-are, errors_at-length, errors_from-length}
use Rattle.piece_rope.proofs.{Answering.text-whole, Answering.total-numbers, Joining.whole-marks, Making.whole, Remembering.all-lean, Remembering.ending-bytes}

can-join : {ps : List Entry} → HasSizes ps → AreCounted ps → length (bytes_of ps) ≤ document_limit → CanJoin ps
can-join {ps} sizes counted within = record { short = short-of 1 ps sizes.small counted; few = few-pieces ps sizes within }

pub join-rope : {d : AnyDecoding} → Laws d → {ps : List Entry} {end : AnyState} → IsRope d ps end → length (bytes_of ps) ≤ document_limit → CanJoin ps
join-rope {d} laws {ps} rope within = can-join rope.sizes (chain-counted laws (any_start d) ps rope.chain) within

pub join-kept : {files : Files} {setting : Setting} {ps : List Entry} {tail : Outcome} → IsKept files setting ps tail → CanJoin ps
join-kept kept = can-join kept.sizes kept.counted kept.within

pub kept-rope : {files : Files} {setting : Setting} {d : AnyDecoding} {ps : List Entry} {tail : Outcome} → AllLaws d
    → decoder_in files setting ≡ Some d → has_files files setting.given ≡ true
    → length (bytes_of ps) ≤ document_limit → IsRope d ps tail.exit → contents_of tail ≡ ending_of d tail.exit
    → ((bytes : List ℕ) → places (length bytes) (mark_length setting bytes) (run (any d) (any_start d) bytes)
    ≡ (decode files setting bytes).items) → IsKept files setting ps tail
kept-rope {files} {setting} {d} {ps} {tail} all chosen can within rope tail_is scratch = record {
  can = can;
  within = within;
  counted = chain-counted all.laws (any_start d) ps rope.chain;
  sizes = rope.sizes;
  whole = whole all.laws all.items (document files setting (bytes_of ps)) ps tail chosen refl rope.chain (scratch (bytes_of ps)) (omega (arith, within))
      (tail_is ∙ ap (ending_of d) rope.end_is);
  numbers = all.joins (texts_of ps) tail.text (items_of ps) tail.items (sums_of ps) tail.sum (total-numbers all ps) tail.summed;
  no_bytes = ending-bytes d tail.exit tail tail_is;
  lean = all-lean all.laws (any_start d) ps rope.chain;
  rope = λ e other. let same : d ≡ e = cc in rw (← same) rope;
  tail_is = λ e other. let same : d ≡ e = cc in rw (← same) tail_is;
}

pub new-rope : (d : AnyDecoding) (start exit : AnyState) (bytes : List ℕ) (ps : List Entry) → start ≡ any_start d → bytes_of ps ≡ bytes → Chain d start ps
    → exit ≡ (feed (any d) start bytes).state → AreSized 1 ps → (shortest ≤ length bytes → AreSized shortest ps)
    → (length bytes ≤ longest → length ps ≤ 1) → IsRope d ps exit
new-rope d start exit bytes ps start_is own chain exit_is small wide few = record {
  chain = rw start_is at chain;
  end_is = cc;
  sizes = record {
    small = small;
    wide = λ many. elim (cases_lt (length bytes) 512) [
      | inl short ↦ absurd (omega (arith, few (omega (arith, short)), many))
      | inr enough ↦ wide enough
    ];
  };
}

pub exchanged-bytes : (bytes ins : List ℕ) (at del start to : ℕ) → start ≡ at → to ≡ at + del → exchanged bytes start to ins ≡ spliced bytes at del ins
exchanged-bytes bytes ins at del start to start_is to_is = cc (append_assoc (take at bytes) ins (drop (at + del) bytes))

-- ---- its numbers

pub record HasLengths (d : Document) (s : Sum) : Type 0 where
  pub bytes : s.bytes ≡ length d.bytes
  pub scalars : s.scalars ≡ length (text_of d)
  pub utf16 : s.utf16 ≡ total_width utf16_width (text_of d)
  pub utf8 : s.utf8 ≡ total_width utf8_width (text_of d)
  pub errors : s.errors ≡ length (errors_of d)
  pub marks : s.marks ≡ marks false (text_of d)
  pub few : s.marks + 1 < 2 ^ 64

pub kept-lengths : {files : Files} {setting : Setting} {ps : List Entry} {tail : Outcome} (earlier : Option (List ℕ)) → IsKept files setting ps tail
    → HasLengths (record (document files setting (bytes_of ps)) { earlier = earlier }) (joined (sums_of ps) tail.sum)
kept-lengths {files} {setting} {ps} {tail} earlier kept =
    let doc : Document = document files setting (bytes_of ps) in
    let bom = (decoded doc).bom in
    let text = sym (text-whole doc ps tail kept.whole) in
    let errors = errors-are doc ps tail kept.whole (sums-bytes ps kept.counted) in
    let end = errors_at-length (sums_of ps).bytes (last_from 0 bom ps) tail.items in
    let n = kept.numbers in
    record {
      bytes = omega (arith, sums-bytes ps kept.counted, kept.no_bytes);
      scalars = n.scalars ∙ ap length text;
      utf16 = n.utf16 ∙ ap (total_width utf16_width) text;
      utf8 = n.utf8 ∙ ap (total_width utf8_width) text;
      errors = omega (arith, ap length errors, length-append {A = Place}, errors_from-length 0 bom ps, end, tail.summed.errors);
      marks = n.marks ∙ ap (marks false) text;
      few = whole-marks tail (join-kept kept) kept.no_bytes;
    }

mark-front : (xs ys : List ℕ) → 3 ≤ length xs → mark_of (xs ++ ys) ≡ mark_of xs
mark-front (a ∷ b ∷ c ∷ xs) ys l = refl
mark-front xs ys l = absurd (omega (arith, l))

-- only the mark counts for its length
pub mark-length-by : (setting : Setting) (xs ys : List ℕ) → mark_of xs ≡ mark_of ys → mark_length setting xs ≡ mark_length setting ys
mark-length-by setting xs ys e = search rules

-- the first piece has a byte order mark whole
pub mark-first : (ps : List Entry) (p : Entry) → HasSizes ps → slice_get ps 0 ≡ Some p → mark_of p.piece.bytes ≡ mark_of (bytes_of ps)
mark-first [] p sizes at = absurd cc
mark-first (q ∷ []) p sizes at = cc (append-nil q.piece.bytes)
mark-first (q ∷ r ∷ ps) p sizes at =
    let wide = sizes.wide (omega arith) in cc (mark-front q.piece.bytes (bytes_of (r ∷ ps)) (omega (arith, wide.0)))
