-- What clients have to send first where a server listens.
use Rattle.serving.specs.declared.access.Access.{Access, TheVariants.Any}
use Rattle.serving.specs.declared.listener.{Listener.Listener, Listener.TheVariants.Unix, Listener.TheVariants.Tcp, Place.Place}
use Rattle.serving.specs.declared.listener.Place.TheVariants as place

-- at a Unix socket nothing, and at a port what the place says
abbrev pub access_at : Place → Access
access_at (place.Path path) = Any
access_at (place.Port port access) = access

abbrev pub access_of : Listener → Access
access_of (Unix listener lock) = Any
access_of (Tcp listener access) = access
