use Rattle.std.proofs.Common.{rules, length, ◌≡◌}
use Rattle.decoder_core.proofs.Utf16Ascii.{ascii_is_bulk}
use Rattle.decoder_core.proofs.utf16_bulk.ascii_bulk.Goals as goal

pub returns : goal.returns
returns c =
    let block = c.narrow_ascii-count.new.text in
    let room : length block ≡ 1024 = Prim.search rules in
    let taken = c.narrow_ascii-count.ensures in
    rw c.unit_bulk.ensures
    (ascii_is_bulk c.law_forms.ensures.ascii c.args.bytes.now block c.narrow_ascii-count.result taken.within taken.room room taken.pairs taken.ascii)
