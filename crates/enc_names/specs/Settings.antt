-- How a document's bytes are to be read.
use Rattle.enc_names.specs.declared.{bom.Bom.Bom, encoding.Encoding.Encoding, setting.Setting.Setting}

abbrev pub setting_of : Encoding → Bom → Setting
setting_of given bom = record { given = given; bom = bom }
