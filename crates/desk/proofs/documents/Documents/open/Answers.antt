use Rattle.desk.proofs.Prelude.{◌≡◌, ℕ, List, string_bytes, true, ◌<◌, sym, ap, ◌∙◌, subst, arith, rules, has_files, entry_of, Files, IsIdle, Shelf}
use Rattle.desk.{specs.Desk.max_documents, proofs.Several.idle-document, proofs.Open.with_document, specs.Documents.edited_reply}
use Rattle.std.specs.FinMap.{insert, len}
use Rattle.piece_rope.specs.Document.{Document}
use Rattle.desk.proofs.documents.Documents.open.Goals as goal

pub returns-clause-step : goal.returns-clause-step
returns-clause-step c =
    let indexes = c.args.self.now.indexes in
    let opened = c.in_ok-opened.opened in
    let same = ap (λ (s : Shelf). s.indexes) c.self.view_is in
    let files : has_files indexes c.args.setting.given ≡ true = rw (← same) (search rules) in
    let text : string_bytes c.in_ok-name.name ≡ c.args.name.now = search rules in
    let idle = rw same at c.in_ok-opened.ensures.idle in
    let free : len c.args.self.now.named < max_documents = omega (arith, c.len.ensures.count, c.if-len-ge-MAX_DOCUMENTS.false) in
    with_document indexes c.args.self.now.named c.insert.new.self.named c.args.name.now c.args.setting c.args.bytes.now c.args.revision
    (entry_of opened) c.edited_reply-reply.result files free
    (rw same at c.in_ok-opened.ensures.entry)
    (c.edited_reply-reply.ensures
    ∙ ap (λ (d : Document). edited_reply d opened.revision) (sym (idle-document indexes opened.document idle.files idle.idle)))
    (ap (λ (s : Shelf). s.named) c.in_ok-insert.ensures.ok ∙ ap (λ (n : List ℕ). insert c.args.self.now.named n (entry_of opened)) text)

pub insert-requires-clause-admitted : goal.insert-requires-clause-admitted
insert-requires-clause-admitted c =
    let opened = c.in_ok-opened.opened in
    let same = ap (λ (s : Shelf). s.indexes) c.self.view_is in
    let files : has_files c.args.self.now.indexes c.args.setting.given ≡ true = rw (← same) (search rules) in record {
      idle = subst (λ (f : Files). IsIdle f opened) same c.in_ok-opened.ensures.idle;
      setting = c.in_ok-opened.ensures.setting.0;
      given = rw c.in_ok-opened.ensures.setting.1 files;
      revision = rw c.in_ok-opened.ensures.revision c.requires.revision;
    }
