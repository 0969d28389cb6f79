-- The code of what a player stands for. Nothing here has to be believed.
use Rattle.std.specs.Prelude.{ℕ, List, Option, refl}
use Rattle.std.specs.Coded.{Coded, code_by, coded×, coded_ℕ, coded_list, coded_option}
use Rattle.records.specs.Playing.{Place}

abbrev pub place_code : Coded Place
place_code =
    code_by (List ℕ × (ℕ × Option (List ℕ))) (coded× (coded_list coded_ℕ) (coded× coded_ℕ (coded_option (coded_list coded_ℕ))))
    (λ p. (p.line, (p.whole, p.head))) (λ p. record { line = p.0; whole = p.1.0; head = p.1.1 }) (λ _. refl)
