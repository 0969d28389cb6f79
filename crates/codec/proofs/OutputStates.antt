-- The output state behind the byte that gives an item is that behind the item's end.
use Rattle.std.proofs.Common.{◌≡◌, refl, sym, ap, subst, ◌∙◌, ℕ, suc, ◌+◌, ◌-◌, ◌≤◌, eqb, true, List, [], ◌∷◌, ◌++◌, length, take, drop, Option, Some, None}
use Rattle.std.proofs.Common.{All, ◌⊎◌, ⊎_elim, ◌<◌, inl, inr, arith, lit≤, if◌then◌else◌, option_map, unwrap_or, bytes_eq}
use Rattle.std.proofs.{Math.Seq.take-nil, Math.Seq.take-length, Math.Seq.take-append_seam, lemmas.Bool.cases_lt, lemmas.Bool.Decides.Decides-eqb}
use Rattle.std.proofs.lemmas.{List.take_all, List.take-append-drop, List.take-append-le, List.length-append, Slice.Eq.bytes_eq-Decides, Slice.Eq.starts_is}
use Rattle.codec.proofs.Prelude.{starts_with, Bom, Sniff, Keep, Setting, Family, Loaded, code_point_of, Ended, by_test, IsLifted, lift_fed, run, feed}
use Rattle.codec.proofs.Prelude.{feed_for, Prefix, Nothing, Ef, EfBb, Fe, Ff, AnyState, in_sniffing, in_iso_2022_jp, AnyDecoding, any, output_of, standing}
use Rattle.codec.proofs.Prelude.{decoder_in, under, state_in, state_behind, looked_up, Mark, mark_of, if_sniffed, mark_under, in_force, mark_length}
use Rattle.codec.proofs.Prelude.{prefix_bytes, prefix_of, prefix_under}
use Rattle.index_loader.specs.declared.family.Family.TheVariants as of
use Rattle.index_loader.specs.Files.{Files, indexes_of, has_files}
use Rattle.iso2022jp.specs.declared.output.OutputState.{OutputState, TheVariants.Ascii}
use Rattle.iso2022jp.specs.{Iso2022Jp.Iso2022Jp as Values, Iso2022Jp.iso_2022_jp, Iso2022Jp.iso_2022_jp_start, Iso2022JpLaws.iso_2022_jp_bytes}
use Rattle.codec.specs.declared.own.OwnDecoder.TheVariants as by
use Rattle.codec.{specs.Output.output_in, specs.Output.output_behind, proofs.Choosing.by_mark}

-- ---- the first bytes of a mark, in ISO-2022-JP

module _ (jis0208 : ℕ → Option ℕ) where
  abbrev iso_out : List ℕ → OutputState
  iso_out p = (feed (iso_2022_jp jis0208) iso_2022_jp_start p).state.output

  in_prefix : (p : Prefix) (n : ℕ) → iso_out (take n (prefix_bytes p)) ≡ Ascii
  unfolding feed feed_for
  in_prefix Nothing n = rw (take-nil {A = ℕ} n) refl
  in_prefix Ef (suc n) = rw (take-nil {A = ℕ} n) refl
  in_prefix EfBb (suc (suc n)) = rw (take-nil {A = ℕ} n) refl
  in_prefix Fe (suc n) = rw (take-nil {A = ℕ} n) refl
  in_prefix Ff (suc n) = rw (take-nil {A = ℕ} n) refl
  in_prefix p n = refl

  few_held : (p : Prefix) → iso_2022_jp_bytes (feed (iso_2022_jp jis0208) iso_2022_jp_start (prefix_bytes p)).state ≤ 1
  unfolding feed feed_for
  few_held Nothing = lit≤ tt
  few_held p = lit≤ tt

  prefix_out : (p : Prefix) → iso_out (prefix_bytes p) ≡ Ascii
  prefix_out p = ap iso_out (sym (take-length (prefix_bytes p))) ∙ in_prefix p (length (prefix_bytes p))

  -- the first bytes of a prefix and a byte are those of the prefix, or all
  at_prefix : ((p : List ℕ) (b : ℕ) → iso_2022_jp_bytes (feed (iso_2022_jp jis0208) iso_2022_jp_start p).state ≤ 1 → iso_out (p ++ b ∷ []) ≡ iso_out p)
      → (p : Prefix) (b n : ℕ) → iso_out (take n (prefix_bytes p ++ b ∷ [])) ≡ Ascii
  at_prefix stays p b n =
      ⊎_elim
      (λ (short : n < length (prefix_bytes p) + 1). ap iso_out (take-append-le n (prefix_bytes p) (b ∷ []) (omega arith)) ∙ in_prefix p n)
      (λ (long : length (prefix_bytes p) + 1 ≤ n).
      ap iso_out (take_all n (prefix_bytes p ++ b ∷ []) (omega (arith, length-append (prefix_bytes p) (b ∷ []))))
      ∙ stays (prefix_bytes p) b (few_held p) ∙ prefix_out p)
      (cases_lt n (length (prefix_bytes p) + 1))

-- ---- encodings with and without escapes

abbrev IsPlain : Family (Option Loaded) → Type 0
IsPlain family = (bytes : List ℕ) → output_in family bytes ≡ Ascii

prefix_output : (family : Family (Option Loaded)) (p : Prefix) → output_in family (prefix_bytes p) ≡ Ascii
prefix_output (of.Iso2022Jp jis0208 katakana) p = prefix_out (looked_up jis0208) p
prefix_output family p = refl

state_output : (family : Family (Option Loaded)) (bytes : List ℕ) → output_of ((standing family).state bytes) ≡ output_in family bytes
state_output (of.Iso2022Jp jis0208 katakana) bytes = refl
state_output family bytes = refl

-- ---- byte order marks

-- what a look has found existed
found_by : {A : Type 0} {a : A} (bom : Bom) (o : Option A) → if_sniffed bom o ≡ Some a → o ≡ Some a
found_by Sniff o is = is
found_by {a = a} Keep o is = absurd (let never : None ≡ Some a = is in cc)

data Form : Type 0 where
  utf8 : Form
  utf16_be : Form
  utf16_le : Form

abbrev bytes_of : Form → List ℕ
bytes_of utf8 = 0xEF ∷ 0xBB ∷ 0xBF ∷ []
bytes_of utf16_be = 0xFE ∷ 0xFF ∷ []
bytes_of utf16_le = 0xFF ∷ 0xFE ∷ []

-- bytes after a mark that counts
record HasMark (setting : Setting) (bytes : List ℕ) : Type 0 where
  sniff : setting.bom ≡ Sniff
  form : Form
  rest : List ℕ
  is : bytes ≡ bytes_of form ++ rest

-- no mark that counts, or one
abbrev Shape : Setting → List ℕ → Type 0
Shape setting bytes = (mark_under setting bytes ≡ None) ⊎ HasMark setting bytes

shape : (setting : Setting) (bytes : List ℕ) → Shape setting bytes
shape setting bytes = go setting.bom refl where
  go : (bom : Bom) → setting.bom ≡ bom → Shape setting bytes
  go Keep keep = inl (ap (λ (b : Bom). if_sniffed b (mark_of bytes)) keep)
  go Sniff sniff =
      let P : Option Mark → Type 0 = λ m. (if_sniffed setting.bom m ≡ None) ⊎ HasMark setting bytes in
      let has : (form : Form) → starts_with eqb bytes (bytes_of form) ≡ true → HasMark setting bytes =
      λ form e. record {
        sniff = sniff;
        form = form;
        rest = drop (length (bytes_of form)) bytes;
        is = (starts_is Decides-eqb bytes (bytes_of form) (starts_with eqb bytes (bytes_of form)) refl).0 e;
      } in
      by_test P (starts_with eqb bytes (bytes_of utf8)) (λ e. inr (has utf8 e)) (λ _.
      by_test P (starts_with eqb bytes (bytes_of utf16_be)) (λ e. inr (has utf16_be e)) (λ _.
      by_test P (starts_with eqb bytes (bytes_of utf16_le)) (λ e. inr (has utf16_le e)) (λ _. inl (ap (λ (b : Bom). if_sniffed b None) sniff))))

-- the first bytes of bytes without a mark have none
never-bare : (form : Form) (rest more : List ℕ) → mark_of ((bytes_of form ++ rest) ++ more) ≡ None → ⊥
never-bare utf8 rest more e = cc
never-bare form rest more e = cc

bare-first : (setting : Setting) (first rest : List ℕ) → mark_under setting (first ++ rest) ≡ None → Shape setting first → mark_under setting first ≡ None
bare-first setting first rest none (inl is) = is
bare-first setting first rest none (inr mark) = absurd (never-bare mark.form mark.rest rest (rw (mark.is, mark.sniff) at none))

bare-taken : (setting : Setting) (bytes : List ℕ) (n : ℕ) → mark_under setting bytes ≡ None → mark_under setting (take n bytes) ≡ None
bare-taken setting bytes n none = bare-first setting (take n bytes) (drop n bytes) (rw (take-append-drop n bytes) none) (shape setting (take n bytes))

fits : (form : Form) (rest : List ℕ) → unwrap_or (option_map (λ (m : Mark). m.len) (mark_of (bytes_of form ++ rest))) 0 ≤ length (bytes_of form ++ rest)
fits utf8 rest = omega arith
fits form rest = omega arith

pub mark_fits : (setting : Setting) (bytes : List ℕ) → mark_length setting bytes ≤ length bytes
mark_fits setting bytes = elim (shape setting bytes) [ inl none ↦ rw none (omega arith) | inr mark ↦ rw (mark.is, mark.sniff) (fits mark.form mark.rest) ]

-- a mark's encoding needs no file
pub decoded_in_force : (files : Files) (setting : Setting) (bytes : List ℕ) → has_files files setting.given ≡ true
    → has_files files (in_force setting bytes) ≡ true
unfolding has_files
decoded_in_force files setting bytes h =
    by_mark (λ m. has_files files (unwrap_or (option_map (λ (m : Mark). m.encoding) m) setting.given) ≡ true) setting bytes refl refl refl h

-- the prefix is all of the bytes
prefix-is : (p q : Prefix) (o : Option Prefix) (bytes : List ℕ) → (o ≡ Some p → bytes ≡ prefix_bytes p)
    → (if bytes_eq (prefix_bytes q) bytes then Some q else o) ≡ Some p → bytes ≡ prefix_bytes p
prefix-is p q o bytes later = by_test (λ (x : Option Prefix). x ≡ Some p → bytes ≡ prefix_bytes p) (bytes_eq (prefix_bytes q) bytes)
    (λ e h. let same : prefix_bytes q ≡ bytes = (bytes_eq-Decides (prefix_bytes q) bytes).0 e in let found : q ≡ p = cc in sym same ∙ ap prefix_bytes found)
    (λ e h. later h)

prefix-found : (bytes : List ℕ) (p : Prefix) → prefix_of bytes ≡ Some p → bytes ≡ prefix_bytes p
prefix-found bytes p =
    prefix-is p Nothing _ bytes
    (prefix-is p Ef _ bytes (prefix-is p EfBb _ bytes (prefix-is p Fe _ bytes (prefix-is p Ff _ bytes (λ h. absurd (let x : None ≡ Some p = h in cc))))))

is_prefix : (setting : Setting) (bytes : List ℕ) (p : Prefix) → prefix_under setting bytes ≡ Some p → bytes ≡ prefix_bytes p
is_prefix setting bytes p found = prefix-found bytes p (found_by setting.bom (prefix_of bytes) found)

-- ---- the output state by the decoder in force alone

behind_prefix : (o : Option Prefix) (s : AnyState) → output_of s ≡ Ascii → output_of (unwrap_or (option_map in_sniffing o) s) ≡ Ascii
behind_prefix o s e = grind (arith, e)

looked : (files : Files) (setting : Setting) (bytes : List ℕ) (o : Option Prefix) → prefix_under setting bytes ≡ o
    → output_of (unwrap_or (option_map in_sniffing o) (state_in files setting.given bytes)) ≡ output_in (indexes_of files setting.given) bytes
looked files setting bytes (Some p) is = rw (is_prefix setting bytes p is) (sym (prefix_output (indexes_of files setting.given) p))
looked files setting bytes None is = state_output (indexes_of files setting.given) bytes

pub output_of_state : (files : Files) (setting : Setting) (bytes : List ℕ) → output_of (state_behind files setting bytes) ≡ output_behind files setting bytes
unfolding state_behind output_behind
output_of_state files setting bytes =
    by_mark (λ m. let e = unwrap_or (option_map (λ (m : Mark). m.encoding) m) setting.given in
    let rest = drop (unwrap_or (option_map (λ (m : Mark). m.len) m) 0) bytes in
    output_of (unwrap_or (option_map in_sniffing (prefix_under setting bytes)) (state_in files e rest)) ≡ output_in (indexes_of files e) rest) setting bytes
    (behind_prefix (prefix_under setting bytes) _ refl) (behind_prefix (prefix_under setting bytes) _ refl) (behind_prefix (prefix_under setting bytes) _ refl)
    (looked files setting bytes (prefix_under setting bytes) refl)

module _ (files : Files) (setting : Setting) where
  abbrev out : List ℕ → OutputState
  out bytes = output_of (state_behind files setting bytes)

  -- after a mark the output state is ASCII, so it is where that of the declared encoding is
  out-given : (bytes : List ℕ) → output_in (indexes_of files setting.given) bytes ≡ Ascii → out bytes ≡ Ascii
  unfolding output_behind
  out-given bytes own =
      output_of_state files setting bytes
      ∙ by_mark (λ m. output_in (indexes_of files (unwrap_or (option_map (λ (m : Mark). m.encoding) m) setting.given))
      (drop (unwrap_or (option_map (λ (m : Mark). m.len) m) 0) bytes) ≡ Ascii) setting bytes refl refl refl own

  -- and so it is within a mark
  in_mark : setting.bom ≡ Sniff → (form : Form) (rest : List ℕ) (n : ℕ) → out (take n (bytes_of form ++ rest)) ≡ Ascii
  unfolding state_behind
  in_mark sniff utf8 rest (suc (suc (suc n))) = rw sniff refl
  in_mark sniff utf16_be rest (suc (suc n)) = rw sniff refl
  in_mark sniff utf16_le rest (suc (suc n)) = rw sniff refl
  in_mark sniff form rest n = rw sniff refl

  first_marked : (bytes : List ℕ) → HasMark setting bytes → (n : ℕ) → out (take n bytes) ≡ Ascii
  first_marked bytes mark n = rw mark.is (in_mark mark.sniff mark.form mark.rest n)

pub output_at_mark : (files : Files) (setting : Setting) (bytes : List ℕ)
    → output_of (state_behind files setting (take (mark_length setting bytes) bytes)) ≡ Ascii
output_at_mark files setting bytes = elim (shape setting bytes) [
  | inl none ↦ rw none (out-given files setting [] (prefix_output (indexes_of files setting.given) Nothing))
  | inr mark ↦ first_marked files setting bytes mark (mark_length setting bytes)
]

-- the one decoder, if it is that of ISO-2022-JP
pub record IsIso (files : Files) (setting : Setting) (d : AnyDecoding) : Type 0 where
  pub jis0208 : Loaded
  pub own : (bytes : List ℕ) → state_in files setting.given bytes ≡ in_iso_2022_jp (feed (iso_2022_jp (code_point_of jis0208)) iso_2022_jp_start bytes).state
  pub lift : IsLifted in_iso_2022_jp (iso_2022_jp (code_point_of jis0208)) (any d)

-- the decoder of the declared encoding is that of ISO-2022-JP, or that encoding has no escapes
iso_or_plain : (files : Files) (setting : Setting) (d : AnyDecoding) (family : Family (Option Loaded))
    → indexes_of files setting.given ≡ family → option_map (under setting) (standing family).decoder ≡ Some d → IsIso files setting d ⊎ IsPlain family
iso_or_plain files setting d (of.Iso2022Jp (Some i) (Some j)) family e =
    let same : under setting (by.Iso2022Jp i) ≡ d = cc in
    inl (record {
      jis0208 = i;
      own = λ bytes. ap (λ (f : Family (Option Loaded)). (standing f).state bytes) family;
      lift = subst (λ (d : AnyDecoding). IsLifted in_iso_2022_jp (iso_2022_jp (code_point_of i)) (any d)) same (λ s o. refl);
    })
iso_or_plain files setting d (of.Iso2022Jp jis0208 katakana) family e = absurd (let x : None ≡ Some d = e in cc)
iso_or_plain files setting d others family e = inr (λ bytes. refl)

-- ---- ISO-2022-JP

-- what its own decoder does
pub record IsoLaws (jis0208 : Loaded) : Type 0 where
  pub stays : (p : List ℕ) (b : ℕ) → iso_2022_jp_bytes (feed (iso_2022_jp (code_point_of jis0208)) iso_2022_jp_start p).state ≤ 1
      → (feed (iso_2022_jp (code_point_of jis0208)) iso_2022_jp_start (p ++ b ∷ [])).state.output
      ≡ (feed (iso_2022_jp (code_point_of jis0208)) iso_2022_jp_start p).state.output
  pub byte : (p : List ℕ) (b : ℕ) → let table = iso_2022_jp (code_point_of jis0208) in
      All (λ (e : Ended). (feed table iso_2022_jp_start (take (length p + 1 - e.back) (p ++ b ∷ []))).state.output
      ≡ (feed table iso_2022_jp_start (p ++ b ∷ [])).state.output)
      (feed table (feed table iso_2022_jp_start p).state (b ∷ [])).items
  pub end : (p : List ℕ) → let table = iso_2022_jp (code_point_of jis0208) in
      All (λ (e : Ended). (feed table iso_2022_jp_start (take (length p - e.back) p)).state.output ≡ (feed table iso_2022_jp_start p).state.output)
      (run table (feed table iso_2022_jp_start p).state [])
  pub runs : (d : AnyDecoding) → IsLifted in_iso_2022_jp (iso_2022_jp (code_point_of jis0208)) (any d) → (s : Values) (q : List ℕ)
      → run (any d) (in_iso_2022_jp s) q ≡ run (iso_2022_jp (code_point_of jis0208)) s q
  pub feeds : (d : AnyDecoding) → IsLifted in_iso_2022_jp (iso_2022_jp (code_point_of jis0208)) (any d) → (s : Values) (q : List ℕ)
      → feed (any d) (in_iso_2022_jp s) q ≡ lift_fed in_iso_2022_jp (feed (iso_2022_jp (code_point_of jis0208)) s q)

module _ (files : Files) (setting : Setting) (d : AnyDecoding) (iso : IsIso files setting d) (laws : IsoLaws iso.jis0208) where
  abbrev lead : ℕ → Option ℕ
  lead = code_point_of iso.jis0208

  abbrev out_here : List ℕ → OutputState
  out_here bytes = out files setting bytes

  bare_iso : (bytes : List ℕ) → mark_under setting bytes ≡ None → out_here bytes ≡ iso_out lead bytes
  unfolding output_behind
  bare_iso bytes none = output_of_state files setting bytes ∙ rw none (sym (state_output (indexes_of files setting.given) bytes) ∙ ap output_of (iso.own bytes))

  own_state : (bytes : List ℕ) → mark_under setting bytes ≡ None → prefix_under setting bytes ≡ None
      → state_behind files setting bytes ≡ in_iso_2022_jp (feed (iso_2022_jp lead) iso_2022_jp_start bytes).state
  unfolding state_behind
  own_state bytes none long = rw (none, long) (iso.own bytes)

  same_iso : (bytes : List ℕ) (n : ℕ) → mark_under setting bytes ≡ None → iso_out lead (take n bytes) ≡ iso_out lead bytes
      → out_here (take n bytes) ≡ out_here bytes
  same_iso bytes n none h = bare_iso (take n bytes) (bare-taken setting bytes n none) ∙ h ∙ sym (bare_iso bytes none)

  -- the same where the first bytes are all in ASCII
  ascii_iso : (bytes : List ℕ) (n : ℕ) → mark_under setting bytes ≡ None → ((n : ℕ) → iso_out lead (take n bytes) ≡ Ascii)
      → out_here (take n bytes) ≡ out_here bytes
  ascii_iso bytes n none ascii = same_iso bytes n none (ascii n ∙ sym (rw (take-length bytes) at (ascii (length bytes))))

  byte_own : (p : List ℕ) (b : ℕ) → mark_under setting (p ++ b ∷ []) ≡ None → (o : Option Prefix) → prefix_under setting p ≡ o
      → All (λ (e : Ended). out_here (take (length p + 1 - e.back) (p ++ b ∷ [])) ≡ out_here (p ++ b ∷ []))
      (feed (any d) (state_behind files setting p) (b ∷ [])).items
  byte_own p b none (Some x) e = λ k c lt. ascii_iso (p ++ b ∷ []) _ none (λ n. rw (is_prefix setting p x e) (at_prefix lead laws.stays x b n))
  byte_own p b none None e =
      let first : mark_under setting p ≡ None = rw (take-append_seam p (b ∷ [])) at (bare-taken setting (p ++ b ∷ []) (length p) none) in
      rw (own_state p first e, laws.feeds d iso.lift (feed (iso_2022_jp lead) iso_2022_jp_start p).state (b ∷ []))
      (λ k c lt. same_iso (p ++ b ∷ []) _ none (laws.byte p b k c lt))

  end_own : (p : List ℕ) → mark_under setting p ≡ None → (o : Option Prefix) → prefix_under setting p ≡ o
      → All (λ (e : Ended). out_here (take (length p - e.back) p) ≡ out_here p) (run (any d) (state_behind files setting p) [])
  end_own p none (Some x) e = λ k c lt. ascii_iso p _ none (λ n. rw (is_prefix setting p x e) (in_prefix lead x n))
  end_own p none None e =
      let items = laws.runs d iso.lift (feed (iso_2022_jp lead) iso_2022_jp_start p).state [] in
      rw (rw (← own_state p none e) at items) (λ k c lt. same_iso p _ none (laws.end p k c lt))

-- after its first bytes the output state is as after all, or there are escapes and no mark
same_or_iso : (files : Files) (setting : Setting) (d : AnyDecoding) (bytes : List ℕ) → decoder_in files setting ≡ Some d
    → ((n : ℕ) → out files setting (take n bytes) ≡ out files setting bytes) ⊎ ((mark_under setting bytes ≡ None) × IsIso files setting d)
same_or_iso files setting d bytes chosen =
    let same : ((n : ℕ) → out files setting (take n bytes) ≡ Ascii) → (n : ℕ) → out files setting (take n bytes) ≡ out files setting bytes =
    λ ascii n. ascii n ∙ sym (rw (take-length bytes) at (ascii (length bytes))) in
    elim (iso_or_plain files setting d (indexes_of files setting.given) refl chosen) [
      | inr plain ↦ inl (same (λ n. out-given files setting (take n bytes) (plain (take n bytes))))
      | inl iso ↦ elim (shape setting bytes) [ inl none ↦ inr (none, iso) | inr mark ↦ inl (same (first_marked files setting bytes mark)) ]
    ]

pub output_at_byte : (laws : (jis0208 : Loaded) → IsoLaws jis0208) (files : Files) (setting : Setting) (d : AnyDecoding) (p : List ℕ)
    (b : ℕ) → decoder_in files setting ≡ Some d
    → All (λ (e : Ended). out files setting (take (length p + 1 - e.back) (p ++ b ∷ [])) ≡ out files setting (p ++ b ∷ []))
    (feed (any d) (state_behind files setting p) (b ∷ [])).items
output_at_byte laws files setting d p b chosen = elim (same_or_iso files setting d (p ++ b ∷ []) chosen) [
  | inl same ↦ λ k c lt. same _
  | inr iso ↦ byte_own files setting d iso.1 (laws iso.1.jis0208) p b iso.0 (prefix_under setting p) refl
]

pub output_at_last : (laws : (jis0208 : Loaded) → IsoLaws jis0208) (files : Files) (setting : Setting) (d : AnyDecoding) (p : List ℕ)
    → decoder_in files setting ≡ Some d
    → All (λ (e : Ended). out files setting (take (length p - e.back) p) ≡ out files setting p) (run (any d) (state_behind files setting p) [])
output_at_last laws files setting d p chosen = elim (same_or_iso files setting d p chosen) [
  | inl same ↦ λ k c lt. same _
  | inr iso ↦ end_own files setting d iso.1 (laws iso.1.jis0208) p iso.0 (prefix_under setting p) refl
]
