use Rattle.std.proofs.Common.{length, ◌-◌, ◌≡◌, ℕ, ◌+◌, ◌≤◌, ◌<◌, List, ◌++◌, drop}
use Rattle.std.specs.Str.Parse.{AllDigits, digits_value}
use Rattle.line_protocol.proofs.request.flat.lexemes.whole_number.Given as goal

-- the digits so far, and their value
abbrev pub invariant-digits : goal.invariant-digits
invariant-digits l =
    (ds : List ℕ) × AllDigits 10 ds × (l.number ≡ digits_value 10 ds) × (drop l.from l.line ≡ ds ++ drop l.at l.line)
    × (l.from + length ds ≡ l.at) × (l.at ≤ length l.line) × (l.number < 10000000000000000000)

abbrev pub decreases-digits : goal.decreases-digits
decreases-digits l = length l.line - l.at
