-- What a session holds. Nothing here has to be believed.
use Rattle.std.specs.Prelude.{ℕ, List, length, drop, slice_range, Option}
use Rattle.connections.specs.Clients.{or_empty}
use Rattle.sessions.specs.Sessions.{Client}

abbrev pub client_of : List ℕ → ℕ → ℕ → Option (List ℕ) → ℕ → Client
client_of items start end reply written = record { input = slice_range items start end; unsent = drop written (or_empty reply) }

abbrev pub reply_length : Option (List ℕ) → ℕ
reply_length reply = length (or_empty reply)
