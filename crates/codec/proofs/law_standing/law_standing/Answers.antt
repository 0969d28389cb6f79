use Rattle.std.proofs.Common.{◌≡◌, refl, ap, ◌∙◌, ℕ, List, [], ◌∷◌, append-nil, Some, None}
use Rattle.codec.proofs.Prelude.{Setting, Ended, IsLifted, lift_fed, Table, Fed, front, queue_after, run}
use Rattle.codec.proofs.Prelude.{feed, OwnDecoder, Prefix, AnyState, AnyDecoding, Standing, any, given_start, standing}
use Rattle.codec.proofs.Prelude.{standing_of, run_behind, stands_behind, under, mark_of, prefix_bytes, prefix_of, sniffing}
use Rattle.index_loader.specs.declared.family.Family.TheVariants as of
use Rattle.decoder_core.specs.declared.utf16.ByteOrder.TheVariants.{BigEndian, LittleEndian}
use Rattle.codec.specs.declared.own.OwnDecoder.TheVariants as by
use Rattle.codec.specs.declared.state.AnyState.TheVariants as state
use Rattle.codec.{specs.SniffedLaws.sniffing-answer, proofs.Looking.begun, proofs.Looking.prefix_bytes-looks, proofs.Looking.looked}
use Rattle.codec.proofs.law_standing.law_standing.Goals as goal

-- the one decoder does from a state on what is wanted
record Does (d : AnyDecoding) (start : AnyState) (runs : List ℕ → List Ended) (states : List ℕ → AnyState) : Type 0 where
  run : (bytes : List ℕ) → run (any d) start bytes ≡ runs bytes
  state : (bytes : List ℕ) → (feed (any d) start bytes).state ≡ states bytes

-- from the first state of one of the decoders it does what that one does alone
abbrev DoesAs : AnyDecoding → Standing → Type 0
DoesAs d s = Does d s.start s.run s.state

lifting : {S : Type 0} {small : Table S} {start : S}
    → ((d : AnyDecoding) (put : S → AnyState) → IsLifted put small (any d) → (s : S) (q : List ℕ) → run (any d) (put s) q ≡ run small s q)
    → ((d : AnyDecoding) (put : S → AnyState) → IsLifted put small (any d) → (s : S) (q : List ℕ) → feed (any d) (put s) q ≡ lift_fed put (feed small s q))
    → (d : AnyDecoding) (put : S → AnyState) → IsLifted put small (any d) → Does d (put start) (run small start) (λ bytes. put (feed small start bytes).state)
lifting {start = start} runs feeds d put same = record {
  run = runs d put same start;
  state = λ bytes. ap (λ (f : Fed AnyState). f.state) (feeds d put same start bytes);
}

utf8 : goal.After-law_all_runs → (d : AnyDecoding) → DoesAs d (standing of.Utf8)
utf8 c d = let laws = c.law_all_among.ensures in lifting (laws.runs (record {})) (laws.feeds (record {})) d state.Utf8 (λ s o. refl)

utf16_be : goal.After-law_all_runs → (d : AnyDecoding) → DoesAs d (standing of.Utf16Be)
utf16_be c d =
    let laws = c.law_all_among-9.ensures in
    lifting (laws.runs (record { order = BigEndian })) (laws.feeds (record { order = BigEndian })) d state.Utf16Be (λ s o. refl)

utf16_le : goal.After-law_all_runs → (d : AnyDecoding) → DoesAs d (standing of.Utf16Le)
utf16_le c d =
    let laws = c.law_all_among-9.ensures in
    lifting (laws.runs (record { order = LittleEndian })) (laws.feeds (record { order = LittleEndian })) d state.Utf16Le (λ s o. refl)

own_under : goal.After-law_all_runs → (setting : Setting) (own : OwnDecoder) → DoesAs (under setting own) (standing_of own)
own_under c setting (by.Utf8 d) = utf8 c (under setting (by.Utf8 d))
own_under c setting (by.Gb18030 d) = lifting (c.law_all_among-2.ensures.runs d) (c.law_all_among-2.ensures.feeds d) _ state.Gb18030 (λ s o. refl)
own_under c setting (by.Pair d) = lifting (c.law_all_among-3.ensures.runs d) (c.law_all_among-3.ensures.feeds d) _ state.Pair (λ s o. refl)
own_under c setting (by.EucJp d) = lifting (c.law_all_among-4.ensures.runs d) (c.law_all_among-4.ensures.feeds d) _ state.EucJp (λ s o. refl)
own_under c setting (by.Iso2022Jp d) = lifting (c.law_all_among-5.ensures.runs d) (c.law_all_among-5.ensures.feeds d) _ state.Iso2022Jp (λ s o. refl)
own_under c setting (by.SingleByte d) = lifting (c.law_all_among-6.ensures.runs d) (c.law_all_among-6.ensures.feeds d) _ state.SingleByte (λ s o. refl)
own_under c setting (by.XUserDefined d) = lifting (c.law_all_among-7.ensures.runs d) (c.law_all_among-7.ensures.feeds d) _ state.XUserDefined (λ s o. refl)
own_under c setting (by.Replacement d) = lifting (c.law_all_among-8.ensures.runs d) (c.law_all_among-8.ensures.feeds d) _ state.Replacement (λ s o. refl)
own_under c setting by.Utf16Be = utf16_be c (under setting by.Utf16Be)
own_under c setting by.Utf16Le = utf16_le c (under setting by.Utf16Le)

-- a turn of the look gives no item
run-on : goal.After-law_all_runs → (d : AnyDecoding) (p : Prefix) (q : List ℕ)
    → let t = sniffing (given_start d.own) p (front q) in let left = queue_after (any d) (state.Sniffing p) q in
    run (any d) (state.Sniffing p) q ≡ run (any d) t.state left
run-on c d p q = rw (c.law_all_runs.ensures.turn d (state.Sniffing p) q, sniffing-answer (given_start d.own) p (front q)) refl

pub returns-clause-run : goal.returns-clause-run
returns-clause-run c d bytes =
    let bare : (q : List ℕ) → mark_of q ≡ None → run (any d) (given_start d.own) q ≡ run_behind d q (mark_of q) =
    λ q none. rw none ((own_under c d.setting d.own).run q) in
    begun (given_start d.own) (λ s. run (any d) s bytes) (λ prefix mark. run_behind d bytes mark) d.setting.bom (prefix_of bytes) (mark_of bytes)
    (looked (given_start d.own) (run (any d)) (λ q. run_behind d q (mark_of q)) (λ p b q. run-on c d p (b ∷ q))
    (λ p. run-on c d p [] ∙ ap (run (any d) (given_start d.own)) (append-nil (prefix_bytes p)) ∙ bare (prefix_bytes p) (prefix_bytes-looks p).1)
    (utf8 c d).run (utf16_be c d).run (utf16_le c d).run (λ q _ none. bare q none) bytes)
    ((own_under c d.setting d.own).run bytes)

pub returns-clause-state : goal.returns-clause-state
returns-clause-state c d bytes =
    begun (given_start d.own) (λ s. (feed (any d) s bytes).state) (stands_behind d bytes) d.setting.bom (prefix_of bytes) (mark_of bytes)
    (looked (given_start d.own) (λ s q. (feed (any d) s q).state) (λ q. stands_behind d q (prefix_of q) (mark_of q))
    (λ p b q. rw (c.law_all_runs.ensures.feed_turn d (state.Sniffing p) b q, sniffing-answer (given_start d.own) p (Some b)) refl)
    (λ p. rw (c.law_all_runs.ensures.feed_empty d (state.Sniffing p), (prefix_bytes-looks p).0) refl)
    (utf8 c d).state (utf16_be c d).state (utf16_le c d).state
    (λ q no_prefix none. rw (no_prefix, none) ((own_under c d.setting d.own).state q)) bytes)
    ((own_under c d.setting d.own).state bytes)
