use Rattle.std.proofs.Common.{◌≡◌, refl, sym, ap, ◌∙◌, ℕ, suc, inl, inr, ◌+◌, ◌-◌, ◌<◌, ◌≤◌, List, [], ◌∷◌, ◌++◌}
use Rattle.std.proofs.Common.{Bool, true, false, if◌then◌else◌, length, take}
use Rattle.std.proofs.Common.{get_or, arith}
use Rattle.std.specs.Str.{chars, IsUtf8}
use Rattle.std.proofs.{Math.Seq.take-suc, lemmas.Bool.Decides.nat_tests}
use Rattle.lane_ascii.specs.Leads.{one_lead}
use Rattle.streams.specs.Counting.{column_on, is_end}
use Rattle.streams.proofs.{Lifting.IfOk-weaker, Numbers.column-bytes, Numbers.column-last, Numbers.column_in, Numbers.Leads}
use Rattle.streams.proofs.counts.column_after.Goals as goal

-- the bytes up to one of them, and that one
front : (bs : List ℕ) (at : ℕ) → 0 < at → at ≤ length bs → take at bs ≡ take (at - 1) bs ++ get_or bs (at - 1) 0 ∷ []
front bs at some within =
    let same : at ≡ suc (at - 1) = omega (arith, some) in
    ap (λ (n : ℕ). take n bs) same ∙ take-suc bs (at - 1) 0 (omega (arith, some, within))

one-less : (bs : List ℕ) (n at : ℕ) → 0 < at → at ≤ length bs
    → column_in n (take at bs) ≡ (if is_end (get_or bs (at - 1) 0) then 0 else column_in n (take (at - 1) bs) + one_lead (get_or bs (at - 1) 0))
one-less bs n at some within = ap (column_in n) (front bs at some within) ∙ column-last (take (at - 1) bs) n (get_or bs (at - 1) 0)

-- in bytes that are those of a text
column-text : Leads → (bs text : List ℕ) (n : ℕ) → IsUtf8 text → bs ≡ text → column_on n (chars text) ≡ column_in n bs
column-text law bs text n valid is = sym (ap (column_in n) is ∙ column-bytes law n text valid)

cr-ends : (b : ℕ) → b ≡ 13 → is_end b ≡ true
cr-ends b is = rw is refl

lf-ends : (b : ℕ) → b ≡ 10 → is_end b ≡ true
lf-ends b is = rw is refl

pub returns-then-byte-eq13 : goal.returns-then-byte-eq13
returns-then-byte-eq13 c =
    let bytes = c.as_bytes-bytes.result.now in
    let b = get_or bytes (c.back.at - 1) 0 in
    let column = c.args.column in
    let ends : is_end b ≡ true = elim c.then-byte-eq13.either [ inl h ↦ cr-ends b h | inr h ↦ lf-ends b h.1 ] in
    let whole = column-text c.law_leads.ensures bytes c.args.text.now column c.utf8.text c.as_bytes-bytes.ensures.value in
    let last = one-less bytes column c.back.at c.back-test.true (omega (arith, c.back.invariant.0)) in
    let none : column_in column (take c.back.at bytes) ≡ 0 = last ∙ rw ends refl in
    omega (arith, whole, c.back.invariant.1, none)

pub back-preserved : goal.back-preserved
back-preserved c =
    let bytes = c.as_bytes-bytes.result.now in
    let b = get_or bytes (c.back.at - 1) 0 in
    let other : is_end b ≡ false = grind (arith, nat_tests, c.if-byte-eq13.false, c.if-byte-eq10.false) in
    let last = one-less bytes c.args.column c.back.at c.back-test.true (omega (arith, c.back.invariant.0)) in
    let more : column_in c.args.column (take c.back.at bytes) ≡ column_in c.args.column (take (c.back.at - 1) bytes) + one_lead b = last ∙ rw other refl in
    let few : one_lead b ≤ 1 = grind (arith) in
    (omega (arith, c.back.invariant.0, c.lead_of.ensures, few, c.back-test.true), omega (arith, c.back.invariant.1, c.lead_of.ensures, more))

pub returns : goal.returns
returns c =
    let bytes = c.as_bytes-bytes.result.now in
    let whole = column-text c.law_leads.ensures bytes c.args.text.now c.args.column c.utf8.text c.as_bytes-bytes.ensures.value in
    let start : c.back.at ≡ 0 = omega (arith, c.back-test.false) in
    let none : column_in c.args.column (take c.back.at bytes) ≡ c.args.column = ap (λ (n : ℕ). column_in c.args.column (take n bytes)) start in
    IfOk-weaker c.more.result (λ n is. omega (arith, is, whole, c.back.invariant.1, none)) c.more.ensures
