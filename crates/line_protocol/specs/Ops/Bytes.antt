-- The reply to `source` and `encode`.
use Rattle.desk.specs.declared.reply.BytesReply.{BytesReply}
use Rattle.line_protocol.specs.Values.{ℕ, Data, codes, object, no_members, member, whole, base64}

-- bytes in base64
abbrev pub bytes_data : ℕ → BytesReply → Data
bytes_data id r = object (member (codes "bytes") (base64 r.bytes) (member (codes "id") (whole id) (member (codes "rev") (whole r.rev) no_members)))
