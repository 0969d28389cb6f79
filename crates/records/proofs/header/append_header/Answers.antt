use Rattle.std.proofs.Common.{codes, string_bytes}
use Rattle.hex.specs.Hex.{encode_lower}
use Rattle.records.specs.Header.{exceptions_words}
use Rattle.records.proofs.Texts.{appended}
use Rattle.records.proofs.header.append_header.Goals as goal

pub returns : goal.returns
returns c =
    appended c.append_exceptions.result (string_bytes c.args.text.now) (string_bytes c.push_str.new.self) (string_bytes c.append_sum.new.text)
    (string_bytes c.append_exceptions.new.text) (codes "# gate record 1 indexes ") (encode_lower c.args.origin.now.indexes) (exceptions_words c.args.origin.now)
    c.in_ok-push_str.ensures.bytes c.in_ok-append_sum.ensures c.append_exceptions.ensures
