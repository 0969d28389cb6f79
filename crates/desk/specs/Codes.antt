-- The codes of what a desk stands for. Nothing here has to be believed.
use Rattle.std.specs.Prelude.{ℕ, List, Option, refl}
use Rattle.std.specs.Coded.{Coded, code_by, coded×, coded_ℕ, coded_list, coded_option}
use Rattle.std.specs.FinMap as map
use Rattle.enc_names.specs.contracts.encoding.Encoding.{the_row}
use Rattle.enc_names.specs.{contracts.setting.Setting.the_row as setting_row, declared.setting.Setting.Setting, Labels.LabelTable}
use Rattle.index_loader.specs.{Exceptions.ExceptionTable, Files.Files, Pairs.Pairs}
use Rattle.desk.specs.{Documents.Entry, Documents.Names, declared.untouched.Untouched.Untouched, Shelf.Shelf, Desk.Office}

abbrev pub untouched_code : Coded Untouched
untouched_code =
    code_by (ℕ × (ℕ × ℕ)) (coded× coded_ℕ (coded× coded_ℕ coded_ℕ))
    (λ u. (u.before, (u.front, u.back))) (λ p. record { before = p.0; front = p.1.0; back = p.1.1 }) (λ _. refl)

abbrev pub entry_code : Coded Entry
entry_code =
    code_by (Setting × (List ℕ × (ℕ × List Untouched)))
    (coded× setting_row.coded (coded× (coded_list coded_ℕ) (coded× coded_ℕ (coded_list untouched_code))))
    (λ h. (h.setting, (h.bytes, (h.revision, h.log)))) (λ p. record { setting = p.0; bytes = p.1.0; revision = p.1.1.0; log = p.1.1.1 }) (λ _. refl)

-- of a name with what is held there
abbrev pub held_code : Coded (List ℕ × Entry)
held_code = coded× (coded_list coded_ℕ) entry_code

abbrev pub names_code : Coded Names
names_code = map.code (coded_list coded_ℕ) entry_code

abbrev pub files_code : Coded Files
files_code =
    code_by (List (Option Pairs) × ExceptionTable)
    (coded× (coded_list (coded_option (coded_list (coded× coded_ℕ coded_ℕ)))) (coded_list (coded× coded_ℕ (coded_list coded_ℕ))))
    (λ f. (f.slots, f.exceptions)) (λ p. record { slots = p.0; exceptions = p.1 }) (λ _. refl)

abbrev pub shelf_code : Coded Shelf
shelf_code = code_by (Files × Names) (coded× files_code names_code) (λ s. (s.indexes, s.named)) (λ p. record { indexes = p.0; named = p.1 }) (λ _. refl)

abbrev pub labels_code : Coded LabelTable
labels_code = coded_list (coded× (coded_list coded_ℕ) the_row.coded)

abbrev pub office_code : Coded Office
office_code =
    code_by (Files × (LabelTable × (Names × ℕ))) (coded× files_code (coded× labels_code (coded× names_code coded_ℕ)))
    (λ o. (o.indexes, (o.labels, (o.documents, o.turn))))
    (λ p. record { indexes = p.0; labels = p.1.0; documents = p.1.1.0; turn = p.1.1.1 }) (λ _. refl)
