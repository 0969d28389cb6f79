-- What a client's socket has passed on, and what it took.
use Rattle.std.specs.Prelude.{ℕ, List}
use Rattle.devices.specs.Histories.{bytes_of}
use Rattle.serving.specs.{Admitting.admitted, declared.guarded.Guarded.Guarded}

-- of what its reads returned, the bytes that are admitted
abbrev pub given_by : Guarded → List ℕ
given_by guarded = admitted guarded.access (bytes_of guarded.socket.received)

-- all that its writes took
abbrev pub taken_by : Guarded → List ℕ
taken_by guarded = bytes_of guarded.socket.sent
