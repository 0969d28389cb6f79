use Rattle.std.proofs.Common.{◌≡◌, ◌+◌, ◌-◌, sym, ap, ◌∙◌, arith, length, take, drop, Result, Ok, Err, IfOk, length-drop, string_bytes}
use Rattle.std.proofs.lemmas.Str.{chars_from_encodes, IsUtf8-string_bytes}
use Rattle.decoder_core.specs.Queue.{Fed, run}
use Rattle.lemmas.proofs.Lists.{rest-is}
use Rattle.codec.proofs.Gathered.{Laws, IsGathered, gathered-whole}
use Rattle.codec.proofs.decoding.decode_by.Goals as goal
use Rattle.codec.proofs.decoding.decode_by.Given.{Over}

laws_of : (g : Over) (c : goal.After-finish g) → Laws (g.D.Decoder.table c.args.decoder.now)
laws_of g c = record {
  none = λ s. ap (λ (f : Fed _). f.state) (c.law_one_run.ensures.feed_empty s);
  runs = c.law_one_run.ensures.parts;
  feeds = λ s p q. ap (λ (f : Fed _). f.state) (c.law_one_run.ensures.feed_parts s p q);
}

IfOk-both : {A E : Type 0} (r : Result A E) {P Q R : A → Type 0} → IfOk r P → IfOk r Q → ((x : A) → P x → Q x → R x) → IfOk r R
IfOk-both (Ok x) p q f = f x p q
IfOk-both (Err e) p q f = tt

gathered : (g : Over) (c : goal.After-finish g) → IsGathered (length c.args.bytes.now) c.args.skip
    (run (g.D.Decoder.table c.args.decoder.now) (g.D.Decoder.initial c.args.decoder.now) (drop c.args.skip c.args.bytes.now)) c.take_last.new.self
gathered g c =
    let bytes = c.args.bytes.now in
    let skip = c.args.skip in
    let rest = take (length bytes - skip) (drop skip bytes) in
    let whole : skip + length rest ≡ length bytes = omega (arith, c.requires, ap length (rest-is skip bytes), length-drop skip bytes) in
    rw (← c.start.ensures, ← rest-is skip bytes)
    (gathered-whole (g.D.Decoder.table c.args.decoder.now) (laws_of g c) (length bytes) skip c.start.result c.in_ok-state.state rest
    c.new-gathering.result c.run_piece.new.sink c.take_last.new.self c.as_slice.result.now whole (omega arith) c.new-gathering.ensures
    c.in_ok-state.ensures.items
    c.in_ok-state.ensures.state (c.as_slice.ensures ∙ c.finish-last.ensures.items) c.in_ok-take_last.ensures)

pub returns-clause-ok : goal.returns-clause-ok
returns-clause-ok g c =
    let all = gathered g c in
    IfOk-both c.finish.result c.finish.ensures.text c.finish.ensures.errors
    (λ d text errors. record {
      text = sym (chars_from_encodes _ (string_bytes d.text) (IsUtf8-string_bytes d.text) (all.text ∙ sym text));
      errors = errors ∙ all.errors;
    })
