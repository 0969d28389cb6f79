use Rattle.lane_utf.proofs.Decoding.{forms-append, forms-ascii, forms-width}
use Rattle.lane_utf.proofs.laws.law_forms.Goals as goal

pub returns : goal.returns
returns c = record { joined = forms-append; ascii = forms-ascii; widths = forms-width }
