-- A decoder of a declared encoding after the look for a byte order mark, which may make UTF-8 or UTF-16 effective.
use Rattle.std.specs.Prelude.{ℕ, Option}
use Rattle.decoder_core.specs.declared.utf16.ByteOrder.TheVariants.{BigEndian, LittleEndian}
use Rattle.decoder_core.specs.{Lift.lift, Queue.Turn, Queue.Table, Utf8.Utf8, Utf8.utf8, Utf16.Utf16, Utf16.utf16}
use Rattle.codec.specs.{Sniffing.sniffing, declared.prefix.Prefix.Prefix, declared.state.AnyState.AnyState}
use Rattle.codec.specs.declared.state.AnyState.TheVariants.{Sniffing as in_sniffing, Utf8 as in_utf8, Utf16Be as in_utf16_be, Utf16Le as in_utf16_le}

-- the states that are the same whatever encoding is given, and all others
pub data Seen : Type 0 where
  Looks : Prefix → Seen
  AsUtf8 : Utf8 → Seen
  AsUtf16Be : Utf16 → Seen
  AsUtf16Le : Utf16 → Seen
  Given : Seen

abbrev pub seen : AnyState → Seen
seen (in_sniffing p) = Looks p
seen (in_utf8 s) = AsUtf8 s
seen (in_utf16_be s) = AsUtf16Be s
seen (in_utf16_le s) = AsUtf16Le s
seen s = Given

abbrev pub sniffed_at : AnyState → Table AnyState → AnyState → Option ℕ → Seen → Turn AnyState
sniffed_at start given state read (Looks p) = sniffing start p read
sniffed_at start given state read (AsUtf8 s) = lift in_utf8 (utf8 s read)
sniffed_at start given state read (AsUtf16Be s) = lift in_utf16_be (utf16 BigEndian s read)
sniffed_at start given state read (AsUtf16Le s) = lift in_utf16_le (utf16 LittleEndian s read)
sniffed_at start given state read Given = given state read

-- `start` is the first state of the declared encoding, and `given` does what its decoder does in its states
abbrev pub sniffed : AnyState → Table AnyState → Table AnyState
sniffed start given state read = sniffed_at start given state read (seen state)
