use Rattle.std.proofs.Common.{refl, ◌≡◌, drop}
use Rattle.std.specs.{Char.is_ascii_whitespace, List.prefix_len}
use Rattle.std.proofs.lemmas.{Bool.Decides.same_from_decides, Slice.Eq.bytes_eq-Decides, Str.Ascii.trim_ascii_is}
use Rattle.enc_names.specs.Labels.{stripped}
use Rattle.enc_names.proofs.labels.is_label.Goals as goal

pub returns : goal.returns
returns c =
    let text = c.args.text.now in
    let trimmed : c.trim_ascii.result.now ≡ stripped text =
    trim_ascii_is text c.trim_ascii.result.now (drop (prefix_len is_ascii_whitespace text) text) refl c.trim_ascii.ensures.value in
    rw (← trimmed) (same_from_decides _ _ c.eq_ignore_ascii_case.ensures.test (bytes_eq-Decides _ _))
