-- The bytes of a history.
use Rattle.std.specs.Prelude.{ℕ, List, [], ◌∷◌, ◌++◌}
use Rattle.devices.specs.declared.history.History.{History, fold-History, TheOpen.History-F}

abbrev one_more : History-F (List ℕ) → List ℕ
one_more History-F.Empty = []
one_more (History-F.Then before byte) = before.value ++ byte.value ∷ []

-- all of them, the first at the front
abbrev pub bytes_of : History → List ℕ
bytes_of = fold-History (List ℕ) one_more
