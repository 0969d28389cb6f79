-- Worked examples: short files of exceptions, and what they hold by the definitions.
use Rattle.std.specs.Prelude.{◌≡◌, ℕ, List, [], ◌∷◌, ◌++◌, codes, Some, None, Ok, Err}
use Rattle.index_loader.specs.declared.fault.ExceptionCause.TheVariants.{BadCodePoint, BadBytes, DuplicateCodePoint}
use Rattle.index_loader.specs.Exceptions.{ExceptionTable, exception_of, exceptions_parsed}
use Rattle.base_tests.specs.IndexFiles.{line}

-- files and their faults
pub record ExceptionFaults : Type 0 where
  pub ascii_lead : exceptions_parsed (line (codes "0x4E04") (codes "417F")) ≡ Err (record { line = 1; cause = BadBytes })
  pub twice : exceptions_parsed (line (codes "0x4E04") (codes "B0A1") ++ line (codes "0x4E04") (codes "B0A1")) ≡ Err (record { line = 2; cause = DuplicateCodePoint })
  pub other_bytes : exceptions_parsed (line (codes "0x4E04") (codes "B0A1") ++ line (codes "0x4E04") (codes "8140")) ≡ Err (record { line = 2; cause = DuplicateCodePoint })
  pub low_lead : exceptions_parsed (line (codes "0x4E04") (codes "8040")) ≡ Err (record { line = 1; cause = BadBytes })
  pub high_lead : exceptions_parsed (line (codes "0x4E04") (codes "FF40")) ≡ Err (record { line = 1; cause = BadBytes })
  pub low_trail : exceptions_parsed (line (codes "0x4E04") (codes "813F")) ≡ Err (record { line = 1; cause = BadBytes })
  pub delete_trail : exceptions_parsed (line (codes "0x4E04") (codes "817F")) ≡ Err (record { line = 1; cause = BadBytes })
  pub high_trail : exceptions_parsed (line (codes "0x4E04") (codes "81FF")) ≡ Err (record { line = 1; cause = BadBytes })
  pub three_digits : exceptions_parsed (line (codes "0x4E04") (codes "B0A")) ≡ Err (record { line = 1; cause = BadBytes })
  pub five_digits : exceptions_parsed (line (codes "0x4E04") (codes "0B0A1")) ≡ Err (record { line = 1; cause = BadBytes })
  pub with_0x : exceptions_parsed (line (codes "0x4E04") (codes "0xB0A1")) ≡ Err (record { line = 1; cause = BadBytes })
  pub apart : exceptions_parsed (line (codes "0x4E04") (codes "B0 A1")) ≡ Err (record { line = 1; cause = BadBytes })
  pub no_field : exceptions_parsed (codes "0x4E04") ≡ Err (record { line = 1; cause = BadBytes })
  pub surrogate : exceptions_parsed (line (codes "0xD800") (codes "B0A1")) ≡ Err (record { line = 1; cause = BadCodePoint })
  pub both : exceptions_parsed (line (codes "4E04") (codes "417F")) ≡ Err (record { line = 1; cause = BadCodePoint })
  pub behind_comment : exceptions_parsed (codes "#" ++ 0x0D ∷ 0x0A ∷ 0x0A ∷ codes "x") ≡ Err (record { line = 3; cause = BadCodePoint })

-- three lines of the ends of what bytes may be, the first of them with spaces, digits of either case, a further field and CR
abbrev pub ends : List ℕ
ends = codes " 0x4e05 " ++ 0x09 ∷ codes " fEFe " ++ 0x09 ∷ codes "x" ++ 0x0D ∷ 0x0A ∷ line (codes "0x4E04") (codes "8180") ++ line (codes "0x4E03") (codes "FE7E")

-- files and their exceptions, in the order of the code points
abbrev pub parsed_ends : ExceptionTable
parsed_ends = (0x4E03, 0xFE ∷ 0x7E ∷ []) ∷ (0x4E04, 0x81 ∷ 0x80 ∷ []) ∷ (0x4E05, 0xFE ∷ 0xFE ∷ []) ∷ []

pub record ParsedExceptions : Type 0 where
  pub empty : exceptions_parsed [] ≡ Ok []
  pub one : exceptions_parsed (line (codes "0x4E04") (codes "B0A1")) ≡ Ok ((0x4E04, 0xB0 ∷ 0xA1 ∷ []) ∷ [])
  pub least : exceptions_parsed (line (codes "0x4E02") (codes "8140")) ≡ Ok ((0x4E02, 0x81 ∷ 0x40 ∷ []) ∷ [])
  pub any_order : exceptions_parsed ends ≡ Ok parsed_ends
  pub there : exception_of parsed_ends 0x4E04 ≡ Some (0x81 ∷ 0x80 ∷ [])
  pub absent : exception_of parsed_ends 0x4E02 ≡ None
