-- The codes of what a gateway stands for. Nothing here has to be believed.
use Rattle.std.specs.{Prelude.ℕ, Prelude.List, Prelude.Option, Prelude.refl, Prelude.◌≡◌, Prelude.◌⊎◌, Coded.Coded, Coded.code_by, Coded.coded×, Coded.coded_ℕ}
use Rattle.std.{specs.Coded.coded_list, specs.Coded.coded_option, specs.Coded.coded⊎, proofs.Common.inl, proofs.Common.inr}
use Rattle.desk.specs.{Codes.office_code, Desk.Office}
use Rattle.connections.specs.Traffic.{Partial, Received, Dropped, Traffic}

abbrev split : Partial → List ℕ ⊎ ℕ
split (Received xs) = inl xs
split (Dropped n) = inr n

abbrev join : List ℕ ⊎ ℕ → Partial
join (inl xs) = Received xs
join (inr n) = Dropped n

pub join-split : (h : Partial) → join (split h) ≡ h
join-split (Received xs) = refl
join-split (Dropped n) = refl

abbrev pub partial_code : Coded Partial
partial_code = code_by (List ℕ ⊎ ℕ) (coded⊎ (coded_list coded_ℕ) coded_ℕ) split join join-split

abbrev pub traffic_code : Coded Traffic
traffic_code =
    code_by (Office × List (Option Partial)) (coded× office_code (coded_list (coded_option partial_code)))
    (λ t. (t.office, t.lines)) (λ p. record { office = p.0; lines = p.1 }) (λ _. refl)
