use Rattle.std.proofs.Common.{◌++◌, ap, ◌∙◌, false, List, ℕ, sym, take, take-append-drop}
use Rattle.decoder_core.proofs.Encoding.{near-run, run-boundary}
use Rattle.decoder_core.proofs.driver.put_run.Goals as goal

pub split_at-requires : goal.split_at-requires
split_at-requires g c =
    let table = g.E.Encoder.table c.args.encoder.now in
    let text = c.args.text.now in
    let run = near-run table false c.args.state c.min.result c.plain_run.result _ text
    (ap (take c.min.result) c.as_bytes-bytes.ensures.value) c.plain_run.ensures.within c.plain_run.ensures.plain in
    run-boundary table false c.args.state text c.plain_run.result c.utf8.text run.0 run.1

pub returns : goal.returns
returns g c =
    let table = g.E.Encoder.table c.args.encoder.now in
    let text = c.args.text.now in
    let n = c.plain_run.result in
    let run = near-run table false c.args.state c.min.result n _ text (ap (take c.min.result) c.as_bytes-bytes.ensures.value)
    c.plain_run.ensures.within c.plain_run.ensures.plain in
    record {
      run = take n text;
      parts = sym (take-append-drop n text) ∙ ap (λ (xs : List ℕ). take n text ++ xs) (sym c.split_at.ensures.back);
      plain = run.1;
      put = c.in_ok-put_slice.ensures ∙ ap (λ (xs : List ℕ). c.args.out.now.bytes ++ xs) (c.as_bytes.ensures.value ∙ c.split_at.ensures.front);
    }
