-- A decoder to which, in one of its states, each byte of a class is its own code point takes runs of them in bulk.
use Rattle.std.proofs.Common.{◌≡◌, ℕ, zero, suc, ◌+◌, ◌<◌, ◌≤◌, Bool, true, false, List, [], ◌∷◌, cond, length, take, refl, sym, arith, lit≤}
use Rattle.std.proofs.lemmas.{List.Sums.prefix_len-le-length, Str.Ascii.IsAscii-nil, Str.Ascii.IsAscii-cons}
use Rattle.decoder_core.proofs.Prelude.{chars, IsAscii, ltb-true, nat_tests, length-take, chars-IsAscii, IsUtf8-from_ascii, len_utf8_ascii, Bulk, Falls, IsBulk}
use Rattle.decoder_core.proofs.{Prelude.IsOwnText, Prelude.run_width, Turning.given, Turning.ArePassed, Turning.passed-shown, Turning.passed-stays}
use Rattle.decoder_core.specs.{declared.bulk.Stride.TheVariants.Utf8, declared.ascii_runs.AsciiRuns.AsciiRuns, Queue.Table}
use Rattle.decoder_core.specs.declared.ascii_runs.AsciiRuns.TheVariants.{None, All, WithoutEscapes}
use Rattle.decoder_core.specs.AsciiRuns.{IsOf, is_of, run_len, TakesAscii, IsRunBulk}
use Rattle.lemmas.proofs.Bools.{passes}

-- a run that is longer than n begins with a byte of the class, and continues
pub run-first : (runs : AsciiRuns) (n b : ℕ) (xs : List ℕ) → suc n ≤ run_len runs (b ∷ xs) → (is_of runs b ≡ true) × (n ≤ run_len runs xs)
run-first runs n b xs h = passes (is_of runs b) n (run_len runs xs) h

-- a run at the front of a part is one of the whole
part-longer : (c : Bool) (n m : ℕ) → n ≤ m → cond c (1 + n) 0 ≤ cond c (1 + m) 0
part-longer true n m h = omega arith
part-longer false n m h = lit≤ tt

pub run-part : (runs : AsciiRuns) (k : ℕ) (xs : List ℕ) → run_len runs (take k xs) ≤ run_len runs xs
run-part runs zero xs = omega arith
run-part runs (suc k) [] = lit≤ tt
run-part runs (suc k) (b ∷ xs) = part-longer (is_of runs b) _ _ (run-part runs k xs)

pub run-none : (xs : List ℕ) → 0 ≡ run_len None xs
run-none [] = refl
run-none (b ∷ xs) = refl

-- a run that was looked for in the first k bytes
pub run-front : (runs : AsciiRuns) (n k : ℕ) (front bytes : List ℕ) → front ≡ take k bytes → n ≡ run_len runs front
    → (n ≤ run_len runs bytes) × (n ≤ k) × (n ≤ length bytes)
run-front runs n k front bytes is run =
    let part = run-part runs k bytes in
    let inside = prefix_len-le-length (is_of runs) (take k bytes) in
    let short = length-take k bytes in
    rw (run, is) (omega (arith, part), omega (arith, inside, short), omega (arith, inside, short))

-- ---- the bytes of a class

pub of-class : (runs : AsciiRuns) (b : ℕ) → is_of runs b ≡ true → IsOf runs b
of-class None b e = absurd Prim.cc
of-class All b e = ltb-true b 0x80 e
of-class WithoutEscapes b e = grind (arith, nat_tests, e)

first-ascii : (runs : AsciiRuns) (b : ℕ) → is_of runs b ≡ true → b < 128
first-ascii None b e = absurd Prim.cc
first-ascii All b e = of-class All b e
first-ascii WithoutEscapes b e = (of-class WithoutEscapes b e).0

pub run-ascii : (runs : AsciiRuns) (n : ℕ) (xs : List ℕ) → n ≤ run_len runs xs → IsAscii (take n xs)
run-ascii runs zero xs h = IsAscii-nil
run-ascii runs (suc n) [] h = absurd (omega arith)
run-ascii runs (suc n) (b ∷ xs) h =
    let p = run-first runs n b xs h in IsAscii-cons b (take n xs) (first-ascii runs b p.0) (run-ascii runs n xs p.1)

run-bytes : (runs : AsciiRuns) (n : ℕ) (xs : List ℕ) → n ≤ run_len runs xs → run_width Utf8 (take n xs) ≡ n
run-bytes runs zero xs h = refl
run-bytes runs (suc n) [] h = absurd (omega arith)
run-bytes runs (suc n) (b ∷ xs) h =
    let p = run-first runs n b xs h in
    let one = len_utf8_ascii b (first-ascii runs b p.0) in
    let rest = run-bytes runs n xs p.1 in
    omega (arith, one, rest)

module _ {S : Type 0} {table : Table S} (f : Falls table) (idle : S) (runs : AsciiRuns) (takes : TakesAscii table idle runs) where
  run-passed : (n : ℕ) (xs : List ℕ) → n ≤ run_len runs xs → ArePassed f idle Utf8 (take n xs) (take n xs)
  run-passed zero xs h = refl
  run-passed (suc n) [] h = absurd (omega arith)
  run-passed (suc n) (b ∷ xs) h =
      let p = run-first runs n b xs h in (
        b ∷ [],
        take n xs,
        refl,
        given f (takes b (of-class runs b p.0)),
        sym (len_utf8_ascii b (first-ascii runs b p.0)),
        run-passed n xs p.1,
      )

  pub run_is_own : (bytes : List ℕ) (n : ℕ) → n ≤ run_len runs bytes → IsOwnText table idle bytes n
  run_is_own bytes n run =
      let q = take n bytes in
      let ascii = run-ascii runs n bytes run in
      let longest = prefix_len-le-length (is_of runs) bytes in
      let valid : chars q ≡ q = chars-IsAscii q ascii in
      record {
        within = omega (arith, run, longest);
        text = IsUtf8-from_ascii q ascii;
        stays = passed-stays f idle Utf8 q q (run-passed n bytes run);
        whole = rw valid (run-bytes runs n bytes run);
        items = λ read. rw valid (passed-shown f idle Utf8 q q (run-passed n bytes run) read);
      }

  -- the same if they were copied into the block
  pub run_is_bulk : (bytes : List ℕ) (bulk : Bulk) (block : List ℕ) → IsRunBulk runs bytes bulk block → IsBulk table idle bytes bulk block
  run_is_bulk bytes bulk block a =
      let own = run_is_own bytes bulk.taken a.run in
      let text : take bulk.written block ≡ take bulk.taken bytes = rw a.as_taken a.copied in
      record {
        within = own.within;
        room = rw a.as_taken a.room;
        text = rw text own.text;
        stays = own.stays;
        whole = rw (text, a.stride) own.whole;
        items = λ read. rw (text, a.stride) (own.items read);
      }
