-- `close`: its fields after the name of its document, in the order of their checks, and its reply.
use Rattle.desk.specs.Commands.{Close}
use Rattle.line_protocol.specs.Fields.{Ask, Field, Result, Ok}
use Rattle.line_protocol.specs.Values.{ℕ, Data, codes, object, no_members, member, whole}

abbrev pub close_fields : Data → Result Ask Field
close_fields d = Ok Close

abbrev pub closed_data : ℕ → ℕ → Data
closed_data id rev = object (member (codes "id") (whole id) (member (codes "rev") (whole rev) no_members))
