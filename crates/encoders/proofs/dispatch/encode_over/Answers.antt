use Rattle.std.specs.Str.{chars}
use Rattle.decoder_core.specs.declared.utf16.ByteOrder.TheVariants.{BigEndian, LittleEndian}
use Rattle.encoders.{specs.Encode.is_html, proofs.Choosing.by_utf8, proofs.Choosing.by_utf16}
use Rattle.encoders.proofs.dispatch.encode_over.Goals as goal

pub returns-in_ok-from_slice-in-Utf8 : goal.returns-in_ok-from_slice-in-Utf8
returns-in_ok-from_slice-in-Utf8 c =
    rw (c.in-Utf8.is, c.in_ok-from_slice-in-Utf8.ensures.items, c.as_bytes.ensures.value) (by_utf8 (is_html c.args.mode) c.args.text.now c.utf8.text)

pub returns-in_ok-encode_utf16-in-Utf16Be : goal.returns-in_ok-encode_utf16-in-Utf16Be
returns-in_ok-encode_utf16-in-Utf16Be c =
    rw (c.in-Utf16Be.is, c.in_ok-encode_utf16-in-Utf16Be.ensures) (by_utf16 BigEndian (is_html c.args.mode) (chars c.args.text.now))

pub returns-in_ok-encode_utf16-in-Utf16Le : goal.returns-in_ok-encode_utf16-in-Utf16Le
returns-in_ok-encode_utf16-in-Utf16Le c =
    rw (c.in-Utf16Le.is, c.in_ok-encode_utf16-in-Utf16Le.ensures) (by_utf16 LittleEndian (is_html c.args.mode) (chars c.args.text.now))

pub returns-in-EucJp : goal.returns-in-EucJp
returns-in-EucJp c = rw c.in-EucJp.is c.encode_indexed.ensures

pub returns-in-Gb18030 : goal.returns-in-Gb18030
returns-in-Gb18030 c = rw c.in-Gb18030.is (rw c.new.ensures at c.encode_bytes-in-Gb18030.ensures)
