-- What is unfolded where a worked text is encoded by the definitions: a character reference has the digits of a number.
use Rattle.std.specs.Fmt.{digits}

unfoldable pub of_references : Unit {0}
unfolding digits
of_references = tt
