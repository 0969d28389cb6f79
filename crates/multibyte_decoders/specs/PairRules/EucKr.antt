-- EUC-KR (Encoding Standard, "EUC-KR decoder").
use Rattle.std.specs.Prelude.{◌-◌}
use Rattle.decoder_core.specs.Forms.{within}
use Rattle.multibyte_decoders.specs.Pairs.{PairRule, ascii_item, one_of}

abbrev pub euc_kr : PairRule
euc_kr = record {
  is_lead = within 0x81 0xFE;
  single = ascii_item;
  is_trail = within 0x41 0xFE;
  row = λ lead. lead - 0x81;
  column = λ b. b - 0x41;
  columns = 190;
  item = λ index pointer. one_of (index pointer);
}
