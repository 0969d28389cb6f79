-- The row of the op `replace`.
use Rattle.std.proofs.Common.{◌≡◌, ℕ, List, refl, ap, Some, None, Option}
use Rattle.desk.specs.Commands as commands
use Rattle.desk.proofs.Prelude.{LabelTable, Files, Given, Range, TextUnit, Entry, with_bytes, base64_bytes, with_given, replace_effect}
use Rattle.desk.proofs.Change.{keeps-substituted, answered-substituted, continues-substituted}
use Rattle.desk.proofs.Row.{IsRow, ContinuesBy, Keeps, Answered, by-bytes, by-document}

module _ (indexes : Files) (labels : LabelTable) (rev : ℕ) (unit : TextUnit) (range : Option Range) (text given : List ℕ) where
  continues : (h : Entry) (bytes : Option (List ℕ)) → base64_bytes given ≡ bytes
      → ContinuesBy indexes h (commands.Replace rev unit range text given) (with_bytes bytes (λ ins. replace_effect indexes rev unit range text ins h))
  continues h None e = refl
  continues h (Some ins) e =
      continues-substituted indexes rev unit range text (Given ins) h (commands.Replace rev unit range text given) refl
      (ap (λ b. with_given indexes h.setting unit range b h.bytes) e)

  pub row : IsRow indexes labels (commands.Replace rev unit range text given)
  row = record {
    keeps = λ place found. by-bytes Keeps (base64_bytes given) _ (λ e. refl) (λ ins.
        by-document Keeps found _ (λ e. refl) (keeps-substituted indexes rev unit range text (Given ins)));
    answered = λ place found. by-bytes Answered (base64_bytes given) _ (λ e. cc) (λ ins.
        by-document Answered found _ (λ e. cc) (answered-substituted indexes rev unit range text (Given ins)));
    continues = λ place h. continues h (base64_bytes given) refl;
    placed = λ o found. refl;
  }
