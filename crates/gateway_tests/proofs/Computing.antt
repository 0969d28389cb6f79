-- What is unfolded where a worked line is computed by the definitions.
use Rattle.std.specs.{Fmt.digits, Str.is_utf8, Str.chars}
use Rattle.base64.proofs.OnLiterals.{base64_on_literals}
use Rattle.json.specs.Print.{escape_byte}
use Rattle.serde_json.proofs.OnLiterals.{serde_json_on_literals}
use Rattle.gateway.specs.Trace.{number_in}

unfoldable pub of_requests : Unit {0}
unfolding is_utf8 chars serde_json_on_literals
of_requests = tt

unfoldable pub of_replies : Unit {0}
unfolding digits escape_byte base64_on_literals
of_replies = tt

unfoldable pub of_traces : Unit {0}
unfolding number_in digits base64_on_literals
of_traces = tt
