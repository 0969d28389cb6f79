-- What a run or a trace on the gateway that it begins with is.
use Rattle.std.proofs.Common.{◌≡◌, ℕ, List, Option, Result, subst}
use Rattle.gateway.specs.{Serving.RunGives, Devices.Reads, Traffic.Traffic, RunFault.RunFault, Headed.TracesHeaded, declared.traces.fault.TraceFault.TraceFault}
use Rattle.gate.specs.{Serving.Served, Replaying.Replayed}

pub served : {A : Type 0} (a : Result A RunFault) (b t new : Traffic) (x y : Reads) (w z : Option (List ℕ)) → t ≡ b
    → RunGives a 0 t new x y w z → Served a b x y w z
served a b t new x y w z is ran = record { new = new; runs = subst (λ s. RunGives a 0 s new x y w z) is ran }

pub replayed : {A : Type 0} (a : Result A TraceFault) (b t new : Traffic) (x y : Reads) (w z : Option (List ℕ)) → t ≡ b
    → TracesHeaded a t new x y w z → Replayed a b x y w z
replayed a b t new x y w z is played = record { new = new; traces = subst (λ s. TracesHeaded a s new x y w z) is played }
