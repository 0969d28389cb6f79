-- Runs of characters of a byte or two: each is one item more, and leaves the state as it is.
use Rattle.std.proofs.Common.{◌≡◌, ℕ, ◌+◌, ◌*◌, ◌<◌, ◌≤◌, List, [], ◌∷◌, ◌++◌, Option, Some, None, IfSome, length, take, drop, get_or, ℤ, pos, ◌+ℤ◌, refl, sym}
use Rattle.std.proofs.Common.{arith, append-nil, true}
use Rattle.std.{specs.Simd.Lanes.put_chunk, proofs.lemmas.Simd.take_more_put_chunk, proofs.Math.Nat.mul-add}
use Rattle.decoder_core.proofs.Prelude.{take-add, len_utf8, IsScalar, encode_utf8, chars, IsUtf8, le-ltb, leb-true, low_scalar, nat_tests, ints, length-take-le}
use Rattle.decoder_core.proofs.Prelude.{drop_more, chars-append, chars_past_char, chars-nil, IsUtf8-append, IsUtf8-encode, length-encode, len_utf8_bounds}
use Rattle.decoder_core.proofs.Prelude.{Stride, One, IsBulk, width_of, run_width, plain_from, TakesByte, TakesPair, IsFront, IsFrontPut, Falls}
use Rattle.decoder_core.specs.declared.bulk.Stride.TheVariants.{Pairs, Bytes}
use Rattle.decoder_core.{specs.Queue.Table, proofs.Moving.nothing_is_bulk, proofs.Moving.take-one, proofs.Running.feed-append, proofs.Showing.shown-append}
use Rattle.decoder_core.proofs.Turning.{given, held, at-front}
use Rattle.index_loader.specs.Form.{IsFormPut, is_wide}

-- ---- one code point more

width-more : (stride : Stride) (cs : List ℕ) (c : ℕ) → run_width stride (cs ++ c ∷ []) ≡ run_width stride cs + width_of stride c
width-more stride [] c = omega arith
width-more stride (d ∷ cs) c = let rest = width-more stride cs c in omega (arith, rest)

plain-more : {S : Type 0} (stride : Stride) (from end : ℤ) (after : S) (cs : List ℕ) (c : ℕ) → end ≡ from +ℤ pos (run_width stride cs + width_of stride c)
    → plain_from stride from after (cs ++ c ∷ []) ≡ plain_from stride from after cs ++ record { item = One c; end = end; after = after } ∷ []
plain-more stride from end after [] c e =
    let same : from +ℤ pos (width_of stride c) ≡ end = omega (arith, ints, e) in
    rw same
plain-more stride from end after (d ∷ cs) c e = rw (plain-more stride (from +ℤ pos (width_of stride d)) end after cs c (omega (arith, ints, e)))

chars-more : (text : List ℕ) (c : ℕ) → IsUtf8 text → IsScalar c → chars (text ++ encode_utf8 c) ≡ chars text ++ c ∷ []
chars-more text c valid scalar =
    let one = chars_past_char (encode_utf8 c) [] c (IsUtf8-encode c scalar) (sym (append-nil (encode_utf8 c))) in
    rw (chars-append text (encode_utf8 c) valid, one, chars-nil)

-- the next two bytes of a list
take-two : (bytes : List ℕ) (at : ℕ) → at + 1 < length bytes → take 2 (drop at bytes) ≡ get_or bytes at 0 ∷ get_or bytes (at + 1) 0 ∷ []
take-two bytes at within = rw (drop_more bytes at 0 (omega (arith, within)), drop_more bytes (at + 1) 0 within)

-- a code point is at most twice as long in UTF-8 as its item, or four times where the item is a byte
pub small-pair : (c : ℕ) → len_utf8 c ≤ 2 * width_of Pairs c
small-pair c = grind (arith, nat_tests)

pub small-byte : (c : ℕ) → len_utf8 c ≤ 4 * width_of Bytes c
small-byte c = let most = len_utf8_bounds c in omega (arith, most)

-- a code point of a wide form isn't ASCII
wide-above : (o : Option ℕ) (c : ℕ) → is_wide o ≡ true → o ≡ Some c → 0x80 ≤ c
wide-above o c wide is = leb-true 0x80 c (rw is at wide)

module _ {S : Type 0} {table : Table S} (f : Falls table) (s : S) where
  -- a byte
  byte-front : (stride : Stride) (bytes : List ℕ) (at b c : ℕ) → TakesByte table s b c → at < length bytes → b ≡ get_or bytes at 0 → 1 ≡ width_of stride c
      → IsFront table s stride bytes at c 1
  byte-front stride bytes at b c turn within b_is wide =
      at-front f s stride bytes (b ∷ []) at c (rw (take-one bytes at within, b_is)) (given f turn) (omega (arith, within)) (omega arith) wide

  -- a pair
  pair-front : (bytes : List ℕ) (at c : ℕ) → TakesPair table s (get_or bytes at 0) (get_or bytes (at + 1) 0) c → at + 1 < length bytes → 0x80 ≤ c
      → IsFront table s Pairs bytes at c 2
  pair-front bytes at c takes within high =
      at-front f s Pairs bytes (get_or bytes at 0 ∷ get_or bytes (at + 1) 0 ∷ []) at c (take-two bytes at within) (held f takes.0 (given f takes.1))
      (omega (arith, within)) (omega arith) (rw (le-ltb c 0x80 high))

  -- one item more
  front-more : {stride : Stride} {bytes block new : List ℕ} {at written c width end : ℕ}
      → IsBulk table s bytes (record { taken = at; written = written; stride = stride }) block → IsFront table s stride bytes at c width → IsScalar c
      → written + 4 ≤ 1024 → end ≡ written + len_utf8 c → take end new ≡ take written block ++ encode_utf8 c
      → IsBulk table s bytes (record { taken = at + width; written = end; stride = stride }) new
  front-more {stride} {bytes} {block} {new} {at} {written} {c} {width} {end} bulk next scalar room end_is text =
      let few = len_utf8_bounds c in
      let cs = chars (take written block) in
      let valid : chars (take end new) ≡ cs ++ c ∷ [] = rw text (chars-more (take written block) c bulk.text scalar) in
      let here = take at bytes in
      let then = take width (drop at bytes) in
      let both : take (at + width) bytes ≡ here ++ then = take-add at width bytes in
      record {
        within = next.within;
        room = omega (arith, end_is, few, room);
        text = rw text (IsUtf8-append (take written block) (encode_utf8 c) bulk.text (IsUtf8-encode c scalar));
        stays = rw (both, feed-append f s here then, bulk.stays) next.stays;
        whole = rw (valid, width-more stride cs c, bulk.whole, ← next.wide);
        items = λ read.
            let last : pos (read + at + width) ≡ pos read +ℤ pos (run_width stride cs + width_of stride c) = omega (arith, ints, bulk.whole, next.wide) in
            rw (both, shown-append f read s here then, length-take-le at bytes bulk.within, bulk.stays, next.items (read + at), bulk.items read, valid)
            (sym (plain-more stride (pos read) (pos (read + at + width)) s cs c last));
      }

  -- a run so far, of which each byte became at most k bytes of text
  pub record IsTaken (k : ℕ) (stride : Stride) (bytes block : List ℕ) (at written : ℕ) : Type 0 where
    pub bulk : IsBulk table s bytes (record { taken = at; written = written; stride = stride }) block
    pub few : written ≤ k * at

  pub none-taken : (k : ℕ) (stride : Stride) (bytes block : List ℕ) → IsTaken k stride bytes block 0 0
  none-taken k stride bytes block = record { bulk = nothing_is_bulk f s stride bytes block; few = omega arith }

  -- what was put is the next item
  pub put-taken : {k : ℕ} {stride : Stride} {width : ℕ} {bytes block new : List ℕ} {at written end : ℕ} → IsTaken k stride bytes block at written
      → ((c : ℕ) → len_utf8 c ≤ k * width_of stride c) → IsFrontPut table s stride width bytes at block new written end → written + 4 ≤ 1024
      → IsTaken k stride bytes new (at + width) end
  put-taken {k = k} {width = width} {at = at} so_far small put room =
      let more = mul-add k at width in
      let one : len_utf8 put.code_point ≤ k * width = rw put.front.wide (small put.code_point) in
      record { bulk = front-more so_far.bulk put.front put.scalar room put.ends put.text; few = omega (arith, more, one, so_far.few, put.ends) }

  -- an ASCII byte is put as its code point
  pub ascii-put : (stride : Stride) (bytes before after : List ℕ) (at written b end : ℕ) → 1 ≡ width_of stride b → TakesByte table s b b → at < length bytes
      → b ≡ get_or bytes at 0 → b < 0x80 → written + 4 ≤ 1024 → length before ≡ 1024 → end ≡ written + len_utf8 b
      → after ≡ put_chunk written before (encode_utf8 b)
      → IsFrontPut table s stride 1 bytes at before after written end
  ascii-put stride bytes before after at written b end wide turn within b_is low room large end_is after_is =
      let few = len_utf8_bounds b in
      let length_is : end ≡ written + length (encode_utf8 b) = rw (end_is, length-encode) in
      record {
        code_point = b;
        front = byte-front stride bytes at b b turn within b_is wide;
        scalar = low_scalar b (omega (arith, low));
        ends = end_is;
        text = rw after_is (take_more_put_chunk written before (encode_utf8 b) end length_is (omega (arith, end_is, few, room, large)));
      }

  -- the form of another byte, and of a pair
  form-put : (stride : Stride) (width : ℕ) (bytes before after : List ℕ) (at written : ℕ) (form : Option ℕ)
      → ((c : ℕ) → form ≡ Some c → IsFront table s stride bytes at c width) → (r : Option ℕ)
      → IfSome r (λ (end : ℕ). IsFormPut form before after written end)
      → IfSome r (λ (end : ℕ). IsFrontPut table s stride width bytes at before after written end)
  form-put stride width bytes before after at written form front None put = put
  form-put stride width bytes before after at written form front (Some end) put =
      record { code_point = put.code_point; front = front put.code_point put.is; scalar = put.scalar; ends = put.ends; text = put.front }

  pub byte-put : (bytes before after : List ℕ) (at written : ℕ) (form : Option ℕ) → at < length bytes
      → IfSome form (λ (c : ℕ). TakesByte table s (get_or bytes at 0) c) → (r : Option ℕ) → IfSome r (λ (end : ℕ). IsFormPut form before after written end)
      → IfSome r (λ (end : ℕ). IsFrontPut table s Bytes 1 bytes at before after written end)
  byte-put bytes before after at written form within known =
      form-put Bytes 1 bytes before after at written form (λ c is. byte-front Bytes bytes at _ c (rw is at known) within refl refl)

  pub pair-put : (bytes before after : List ℕ) (at written : ℕ) (form : Option ℕ) → at + 1 < length bytes
      → IfSome form (λ (c : ℕ). TakesPair table s (get_or bytes at 0) (get_or bytes (at + 1) 0) c) → is_wide form ≡ true → (r : Option ℕ)
      → IfSome r (λ (end : ℕ). IsFormPut form before after written end) → IfSome r (λ (end : ℕ). IsFrontPut table s Pairs 2 bytes at before after written end)
  pair-put bytes before after at written form within known wide =
      form-put Pairs 2 bytes before after at written form (λ c is. pair-front bytes at c (rw is at known) within (wide-above form c wide is))
