use Rattle.desk.proofs.Prelude.{◌≡◌, map, drop, changed_all, changed_from_none, change_of, OnlyBytes}
use Rattle.desk.proofs.ops.changes.make_changes.Given as goal

-- what is left to make is the same on the document so far
abbrev pub invariant-changes : goal.invariant-changes
invariant-changes l = record {
  rest : changed_all l.unit l.made (map change_of (drop l.change-index l.changes)) l.document
      ≡ changed_from_none l.unit (map change_of l.changes) l.fn.document;
  count : l.made.count ≡ l.change-index;
  kept : OnlyBytes l.fn.document l.document;
  first : l.change-index ≡ 0 → l.document ≡ l.fn.document;
}
