-- Code points in front of a text that have one byte each, and what is put for a text that begins with them.
use Rattle.std.proofs.Common.{◌≡◌, ℕ, suc, ◌+◌, ◌<◌, ◌≤◌, Bool, true, List, [], ◌∷◌, ◌++◌, Option, Some, Result, Ok, Err, map, length, take, drop, set, refl}
use Rattle.std.proofs.Common.{ap, arith, append_assoc, append-nil, length-append, take-append-drop}
use Rattle.std.specs.Char.{encode_utf8, len_utf8}
use Rattle.std.specs.{Prelude.⊤, Str.chars, Str.IsAscii, Str.IsCharBoundary, Str.IsUtf8}
use Rattle.std.proofs.lemmas.{Bool.Decides.nat_tests, List.map-append, List.take_more_set}
use Rattle.std.proofs.lemmas.Str.{chars-IsAscii, chars-append, IsCharBoundary-from_take, IsUtf8-from_ascii}
use Rattle.std.proofs.lemmas.Str.{len_utf8_bounds, length-encode}
use Rattle.decoder_core.specs.Forms.{is_ascii}
use Rattle.index_loader.specs.Index.{Loaded}
use Rattle.lane_ascii.specs.Runs.{ascii_len}
use Rattle.encoders.specs.{Encode.bytes_only, Bytewise.IsBytewise, SingleByte.single_byte_bytes, StatelessLaws.by_ascii_or, Stateless.one, Stateless.stateless}
use Rattle.encoders.specs.Steps.{Put, Table, Unencodable, behind, encoded_from, onward, taken}
use Rattle.encoders.proofs.AsciiRuns.{ascii_front, ascii_part, ascii_within}

-- a code point takes at least one byte
pub fewer : (text rest : List ℕ) (c : ℕ) → text ≡ encode_utf8 c ++ rest → length rest + 1 ≤ length text
fewer text rest c parts =
    let long : length text ≡ len_utf8 c + length rest = rw (parts, length-append, length-encode) refl in
    Prim.omega (arith, long, (len_utf8_bounds c).0)

-- ---- the ASCII in front of a text

module _ (text : List ℕ) (n : ℕ) (low : n ≤ ascii_len text) where
  abbrev run : List ℕ
  run = take n text

  ascii : IsAscii run
  ascii = ascii_front text n low

  pub ascii-boundary : IsUtf8 text → IsCharBoundary text n
  ascii-boundary u = IsCharBoundary-from_take text n u (Prim.omega (arith, low, ascii_within text)) (IsUtf8-from_ascii run ascii)

  ascii-chars : chars text ≡ run ++ chars (drop n text)
  ascii-chars = rw (take-append-drop n text, chars-IsAscii run ascii) at (chars-append run (drop n text) (IsUtf8-from_ascii run ascii))

-- bytes that were looked for in the first k bytes
pub near-ascii : (k n : ℕ) (near text : List ℕ) → near ≡ take k text → n ≡ ascii_len near → n ≤ ascii_len text
near-ascii k n near text near_is long = rw (long, near_is) (ascii_part k text)

-- ---- fronts

module _ (index : Loaded) where
  abbrev own : ℕ → Option (List ℕ)
  own = single_byte_bytes index

  abbrev each : ℕ → Option (List ℕ)
  each b = Some (one b)

  ascii-each : (run : List ℕ) → IsAscii run → map own run ≡ map each run
  ascii-each [] low = refl
  ascii-each (b ∷ run) low =
      let is : is_ascii b ≡ true = Prim.grind (arith, nat_tests, low 0) in
      rw (by_ascii_or _ b is, ascii-each run (λ i. low (suc i)))

  front-ascii : (text : List ℕ) (n : ℕ) → n ≤ ascii_len text → IsBytewise index (chars text) (take n text) (chars (drop n text))
  front-ascii text n low = record { front = take n text; parts = ascii-chars text n low; each = ascii-each (take n text) (ascii text n low) }

  front-one : (c b : ℕ) (rest : List ℕ) → Some (one b) ≡ own c → IsBytewise index (c ∷ rest) (one b) rest
  front-one c b rest is = record { front = one c; parts = refl; each = rw is }

  pub front-joined : {all bytes cs more rest : List ℕ} → IsBytewise index all bytes cs → IsBytewise index cs more rest
      → IsBytewise index all (bytes ++ more) rest
  front-joined a b = record {
    front = a.front ++ b.front;
    parts = rw (a.parts, b.parts, append_assoc);
    each = rw (map-append own a.front b.front, a.each, b.each, map-append);
  }

  pub front-more : {all rest : List ℕ} (block : List ℕ) (n : ℕ) {c : ℕ} (b : ℕ) → IsBytewise index all (take n block) (c ∷ rest) → Some (one b) ≡ own c
      → n < length block → IsBytewise index all (take (n + 1) (set block n b)) rest
  front-more block n b so_far is room = rw (take_more_set block n b room) (front-joined so_far (front-one _ b _ is))

  -- ASCII before a text, after others
  pub past-run : {all bytes : List ℕ} (text : List ℕ) {run others now : List ℕ} (n : ℕ) → IsBytewise index all bytes (chars text)
      → n ≤ ascii_len text → run ≡ take n text → others ≡ drop n text → now ≡ bytes ++ run → IsBytewise index all now (chars others)
  past-run text n so_far low is behind put = rw (put, is, behind) (front-joined so_far (front-ascii text n low))

-- ---- what is put

behind-alike : {S : Type 0} (bs : List ℕ) (r t : Result (Put S) Unencodable) (p : Put S)
    → ((q : Put S) → r ≡ Ok q → t ≡ Ok q) → behind bs r ≡ Ok p → behind bs t ≡ Ok p
behind-alike bs (Err e) t p alike h = absurd (Prim.cc)
behind-alike bs (Ok q) t p alike h = rw (alike q refl) h

onward-alike : {S : Type 0} (i j : ℕ) (r : Result (Put S) ℕ) (f g : S → Result (Put S) Unencodable) (p : Put S)
    → ((s : S) (q : Put S) → f s ≡ Ok q → g s ≡ Ok q) → onward i r f ≡ Ok p → onward j r g ≡ Ok p
onward-alike i j (Err c) f g p alike e = absurd (Prim.cc)
onward-alike i j (Ok put) f g p alike e = behind-alike put.bytes (f put.state) (g put.state) p (alike put.state) e

-- a text that is put is put alike whatever its first number is
put-alike : {S : Type 0} (table : Table S) (html : Bool) (i j : ℕ) (s : S) (cs : List ℕ) (p : Put S)
    → encoded_from table html i s cs ≡ Ok p → encoded_from table html j s cs ≡ Ok p
put-alike table html i j s [] p e = e
put-alike table html i j s (c ∷ cs) p e = onward-alike i j (taken table html 2 s c) _ _ p (λ next q. put-alike table html (i + 1) (j + 1) next cs q) e

only-ok : (r : Result (Put ⊤) Unencodable) (bs : List ℕ) → bytes_only r ≡ Ok bs → r ≡ Ok (record { bytes = bs; state = tt })
only-ok (Ok put) bs e = ap (λ (xs : List ℕ). Ok (record { bytes = xs; state = tt })) (Prim.cc)
only-ok (Err d) bs e = absurd (Prim.cc)

module _ (index : Loaded) (html : Bool) where
  abbrev put_from : ℕ → List ℕ → Result (Put ⊤) Unencodable
  put_from i cs = encoded_from (stateless (single_byte_bytes index)) html i tt cs

  front-put : (i : ℕ) (front bytes cs others : List ℕ) → map (single_byte_bytes index) front ≡ map (λ b. Some (one b)) bytes
      → put_from 0 cs ≡ Ok (record { bytes = others; state = tt }) → put_from i (front ++ cs) ≡ Ok (record { bytes = bytes ++ others; state = tt })
  front-put i [] [] cs others each is = put-alike (stateless (single_byte_bytes index)) html 0 i tt cs _ is
  front-put i [] (b ∷ bytes) cs others each is = absurd (Prim.cc)
  front-put i (c ∷ front) [] cs others each is = absurd (Prim.cc)
  front-put i (c ∷ front) (b ∷ bytes) cs others each is =
      let head : single_byte_bytes index c ≡ Some (one b) = Prim.cc in
      let tail : map (single_byte_bytes index) front ≡ map (λ b. Some (one b)) bytes = Prim.cc in
      rw (head, front-put (i + 1) front bytes cs others tail is)

  pub front-encoded : (all bytes rest others : List ℕ) → IsBytewise index all bytes rest → bytes_only (put_from 0 rest) ≡ Ok others
      → bytes_only (put_from 0 all) ≡ Ok (bytes ++ others)
  front-encoded all bytes rest others x is = rw (x.parts, front-put 0 x.front bytes rest others x.each (only-ok (put_from 0 rest) others is))

  pub whole-encoded : (all bytes rest : List ℕ) → IsBytewise index all bytes rest → rest ≡ [] → bytes_only (put_from 0 all) ≡ Ok bytes
  whole-encoded all bytes rest x none = rw append-nil at (front-encoded all bytes rest [] x (rw none))
