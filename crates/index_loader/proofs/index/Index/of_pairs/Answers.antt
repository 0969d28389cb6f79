use Rattle.std.proofs.Common.{arith, rules}
use Rattle.index_loader.proofs.IndexLemmas.{forms-of_any, table_len-home, table_len-small, is_ranges-home}
use Rattle.index_loader.specs.Kinds.{home_of}
use Rattle.index_loader.proofs.index.Index.of_pairs.Goals as goal

pub by_code_point-requires : goal.by_code_point-requires
by_code_point-requires c = let small = table_len-small c.args.kind in omega (arith, c.requires.limit)

pub invariant_of-result : goal.invariant_of-result
invariant_of-result c =
    record {
      at_home = Prim.search (rules, c.home.ensures);
      rows_kept = rw (c.home.ensures, is_ranges-home c.args.kind) c.requires.rows;
      same_pairs = c.in_ok-by_code_point.ensures.same;
      of_bytes = rw (c.home.ensures)
          (forms-of_any (home_of c.args.kind) c.args.pairs c.in_ok-bytes.bytes (rw (is_ranges-home c.args.kind) c.requires.rows) c.in_ok-bytes.ensures);
      small = rw (c.home.ensures, table_len-home c.args.kind, ← c.requires.limit) c.in_ok-by_code_point.ensures.small;
    }
