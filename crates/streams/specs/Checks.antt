-- The check of a stream: what its bytes have, by what they decode to (Encoding Standard, "decode").
use Rattle.std.specs.Prelude.{◌≡◌, ◌<◌, ⊤, ℕ, ◌+◌, ◌-◌, false, true, List, [], ◌++◌, take, length, Result, Ok, Err, pos, ◌+ℤ◌, string_bytes}
use Rattle.std.specs.{Int.saturate_unsigned, Int.w64, Str.chars}
use Rattle.devices.specs.Devices.{Reads}
use Rattle.devices.specs.Reading.{Ending, AtEnd, ReadFailed, GivenUp, BrokenOff, ReadSo, ReadUp}
use Rattle.enc_names.specs.declared.setting.Setting.{Setting}
use Rattle.index_loader.specs.Files.{Files, has_files}
use Rattle.lane_ascii.specs.Marks.{cr, marks}
use Rattle.decoder_core.specs.{declared.item.Ended.Ended, declared.placed.Placed.Placed, Collected.last_end, Placed.places}
use Rattle.decoder_core.specs.{Queue.feed, Queue.further, Queue.run}
use Rattle.decoder_core.specs.Text.{code_points, error_places}
use Rattle.codec.specs.{Any.AnyDecoding, Any.any, Any.any_start, Decode.decode, Mark.in_force, Mark.mark_length, Texts.ended_text}
use Rattle.codec.specs.{declared.state.AnyState.AnyState}
use Rattle.streams.specs.declared.{checking.CheckFault.CheckFault, counts.Counts.Counts, head.Head.Head, part_text.Decoded.Decoded}
use Rattle.streams.specs.declared.{row.Found.Found, row.Row.Row}
use Rattle.streams.specs.declared.checking.CheckFault.TheVariants as fault
use Rattle.streams.specs.{Counting.count_of, Counting.counted, Counting.no_counts, Counting.pairs, Finding.found_among, Finding.marked}
use Rattle.streams.specs.{Gathering.with_errors, Heads.head_bytes}

-- The row is that of these bytes: the effective encoding and the byte order mark, and of the text the code points, the line ends by kind, the lines,
-- and the errors, of which the first `most` are named.
pub record IsRow (files : Files) (setting : Setting) (most : ℕ) (bytes : List ℕ) (row : Row) : Type 0 where
  pub encoding : row.encoding ≡ (decode files setting bytes).encoding
  pub bom : row.bom ≡ (decode files setting bytes).bom
  pub bytes_are : row.bytes ≡ length bytes
  pub characters : row.characters ≡ length (code_points (decode files setting bytes).items)
  pub lf : row.lf ≡ marks false (code_points (decode files setting bytes).items) - count_of cr (code_points (decode files setting bytes).items)
  pub crlf : row.crlf ≡ pairs false (code_points (decode files setting bytes).items)
  pub cr_are : row.cr ≡ count_of cr (code_points (decode files setting bytes).items) - pairs false (code_points (decode files setting bytes).items)
  pub lines : row.lines ≡ marks false (code_points (decode files setting bytes).items) + 1
  pub errors : row.errors ≡ length (error_places (decode files setting bytes).items)
  pub places_are : row.places.items ≡ take most (found_among [] (decode files setting bytes).items)

-- where reading was broken off, at least a byte was read
abbrev pub SomethingRead : Ending → List ℕ → Type 0
SomethingRead BrokenOff read = 0 < length read
SomethingRead ending read = ⊤

-- Memory ran out after a byte was read, or once reading had ended.
pub record RanOut (first last : Reads) : Type 0 where
  pub ending : Ending
  pub so : ReadSo (SomethingRead ending) first last
  pub up : ReadUp ending first last

-- a stream was checked, by the answer
abbrev pub Checks : Result Row CheckFault → Files → Setting → ℕ → Reads → Reads → Type 0
Checks (Ok row) files setting most first last = ReadSo (λ read. IsRow files setting most read row) first last × ReadUp AtEnd first last
Checks (Err (fault.Read row)) files setting most first last =
    ReadSo (λ read. IsRow files setting most read row) first last × ReadUp ReadFailed first last
Checks (Err (fault.TooManyReads row)) files setting most first last =
    ReadSo (λ read. IsRow files setting most read row) first last × ReadUp GivenUp first last
Checks (Err fault.NoIndex) files setting most first last = (has_files files setting.given ≡ false) × (last ≡ first)
Checks (Err fault.OutOfMemory) files setting most first last = (has_files files setting.given ≡ true) × RanOut first last

-- ---- a check under way

-- what contracts see of a check: its decoder and setting, its state, the first bytes, how many there were, the end of the last item, the
-- numbers of the text, the errors and the first of them
pub record Checking : Type 0 where
  pub decoder : AnyDecoding
  pub setting : Setting
  pub state : AnyState
  pub head : Head
  pub bytes : ℕ
  pub end : ℕ
  pub counts : Counts
  pub errors : ℕ
  pub most : ℕ
  pub found : List Found

-- What it has is that of these items, of bytes of this number.
pub record Sums (total : ℕ) (items : List Ended) (c : Checking) : Type 0 where
  pub end_is : c.end ≡ last_end total 0 items
  pub counts_are : c.counts ≡ counted no_counts (ended_text items)
  pub errors_are : c.errors ≡ with_errors 0 items
  pub found_are : c.found ≡ take c.most (found_among [] (places total 0 items))

-- how a decoder goes on
abbrev pub Feeds : AnyDecoding → Type 0
Feeds d = (s : AnyState) (p q : List ℕ) → let first = feed (any d) s p in
    let second = feed (any d) first.state q in
    feed (any d) s (p ++ q) ≡ record { state = second.state; items = further (length q) first.items ++ second.items }

-- A check of these bytes, as far as they decide it.
pub record HasRead (d : AnyDecoding) (setting : Setting) (most : ℕ) (read : List ℕ) (c : Checking) : Type 0 where
  pub same : (c.decoder ≡ d) × (c.setting ≡ setting) × (c.most ≡ most)
  pub state : c.state ≡ (feed (any d) (any_start d) read).state
  pub head : head_bytes c.head ≡ take 3 read
  pub bytes : c.bytes ≡ length read
  pub sums : Sums (length read) (feed (any d) (any_start d) read).items c
  pub feeds : Feeds d

-- What was decoded is the text of these items, which end `n` bytes further on.
pub record IsPart (c : Checking) (n : ℕ) (es : List Ended) (d : Decoded) : Type 0 where
  pub text : chars (string_bytes d.text) ≡ ended_text es
  pub errors : d.errors ≡ with_errors 0 es
  pub end_is : saturate_unsigned w64 (pos c.bytes +ℤ d.end) ≡ last_end (c.bytes + n) c.end es

-- with other errors found
abbrev pub with_names : List Found → Checking → Checking
with_names found c = record {
  decoder = c.decoder;
  setting = c.setting;
  state = c.state;
  head = c.head;
  bytes = c.bytes;
  end = c.end;
  counts = c.counts;
  errors = c.errors;
  most = c.most;
  found = found;
}

-- The errors of these items, which end `n` bytes further on, were found, as far as they are asked for.
pub record Names (n : ℕ) (es : List Ended) (old new : Checking) : Type 0 where
  pub others : new ≡ with_names new.found old
  pub found : (before : List ℕ) (all : List Found) → old.counts ≡ counted no_counts before → old.found ≡ take old.most all
      → new.found ≡ take old.most (old.found ++ found_among before (places (old.bytes + n) old.end es))

-- further on, with this state, these first bytes and so many bytes
abbrev pub gone_on : AnyState → Head → ℕ → Checking → Checking
gone_on state head bytes c = record {
  decoder = c.decoder;
  setting = c.setting;
  state = state;
  head = head;
  bytes = bytes;
  end = c.end;
  counts = c.counts;
  errors = c.errors;
  most = c.most;
  found = c.found;
}

-- the row of what a check has
pub record RowOf (c : Checking) (row : Row) : Type 0 where
  pub encoding : (bytes : List ℕ) → head_bytes c.head ≡ take 3 bytes → row.encoding ≡ in_force c.setting bytes
  pub bom : (bytes : List ℕ) → head_bytes c.head ≡ take 3 bytes → row.bom ≡ mark_length c.setting bytes
  pub bytes_are : row.bytes ≡ c.bytes
  pub characters : row.characters ≡ c.counts.characters
  pub lf : row.lf ≡ c.counts.lines - c.counts.crs
  pub crlf : row.crlf ≡ c.counts.pairs
  pub cr_are : row.cr ≡ c.counts.crs - c.counts.pairs
  pub lines : row.lines ≡ c.counts.lines + 1
  pub errors : row.errors ≡ c.errors
  pub places_are : row.places.items ≡ marked row.bom c.found

-- the numbers of a part more
abbrev pub added : Decoded → Checking → Checking
added d c = record {
  decoder = c.decoder;
  setting = c.setting;
  state = c.state;
  head = c.head;
  bytes = c.bytes;
  end = saturate_unsigned w64 (pos c.bytes +ℤ d.end);
  counts = counted c.counts (chars (string_bytes d.text));
  errors = c.errors + d.errors;
  most = c.most;
  found = c.found;
}

-- the items that the end gives were checked
pub record EndsCheck (last : List Ended) (old new : Checking) : Type 0 where
  pub setting : new.setting ≡ old.setting
  pub head : new.head ≡ old.head
  pub bytes : new.bytes ≡ old.bytes
  pub most : new.most ≡ old.most
  pub sums : (items : List Ended) → Sums old.bytes items old → Sums old.bytes (items ++ last) new

-- a part was checked
abbrev pub ChecksPart : List ℕ → Checking → Checking → Type 0
ChecksPart bytes old new = (d : AnyDecoding) (setting : Setting) (most : ℕ) (read : List ℕ) → HasRead d setting most read old
    → HasRead d setting most (read ++ bytes) new

-- A check of these bytes by the decoder that `decode` has.
pub record Checked (files : Files) (setting : Setting) (most : ℕ) (read : List ℕ) (c : Checking) : Type 0 where
  pub decoder : AnyDecoding
  pub decodes : (bytes : List ℕ) → places (length bytes) (mark_length setting bytes) (run (any decoder) (any_start decoder) bytes)
      ≡ (decode files setting bytes).items
  pub runs : (s : AnyState) (p q : List ℕ) → let first = feed (any decoder) s p in
      run (any decoder) s (p ++ q) ≡ further (length q) first.items ++ run (any decoder) first.state q
  pub has : HasRead decoder setting most read c
