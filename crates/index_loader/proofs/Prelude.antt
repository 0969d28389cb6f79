-- The words that most proofs here cite, passed on from one place.
pub use Rattle.index_loader.specs.Exceptions.{as_pair, bytes_behind, bytes_in, exception_in, exceptions_from, exceptions_parsed, ExceptionTable}
pub use Rattle.index_loader.specs.File.{pairs_from, IsReading, has_needed_rows, if_complete, is_out_of_memory, pairs_with, with_line}
pub use Rattle.index_loader.specs.{File.pairs_parsed, Scalars.as_scalar, Split.parts_behind, Rows.IsRising, Rows.IsLastRowUpTo, Lines.pair_in, Lines.pair_with}
pub use Rattle.index_loader.specs.Index.{IsTableOf, Loaded, code_point_of, is_ranges, last_pointer_of, pointer_from_of, pointer_of}
pub use Rattle.index_loader.specs.Lines.{refusal_of, stripped, behind_spaces, lines_of, fields_of, number_in, allows, code_point_in, is_skipped, pair_behind}
pub use Rattle.index_loader.specs.{Numbered.FaultIs, Numbered.read_from, Plain.IsNumberFirst, Plain.IsPointerFirst, Plain.IsTens}
pub use Rattle.index_loader.specs.Pairs.{Pairs, greatest, least, pointers_with, code_point_at, inserted, greater}
pub use Rattle.index_loader.specs.Ranges.{outside_gap, pointer_in_row, range_pointer, row_code_point, code_point_in_row, row_pointer}
pub use Rattle.index_loader.specs.Table.{pairs_in, table_len, pointer_limit, pairs_at}
pub use Rattle.index_loader.specs.declared.fault.IndexCause.TheVariants.{BadRanges, DuplicatePointer}
pub use Rattle.index_loader.specs.declared.kind.IndexKind.{IndexKind, TheVariants.Jis0208}
pub use Rattle.std.specs.{Char.is_digit, Char.digit_value, Char.IsScalar, Option.option_map_or, Str.Parse.digits_value}
pub use Rattle.std.specs.List.{list_all, range_with_len, starts_with, onto_first, slice_split, Sorted.IsNonDecreasingBy, Sorted.IsPartitionPoint}
pub use Rattle.index_loader.specs.Kinds.{greatest_pointer, home_of, kinds, same_kind}
unfoldable pub use Rattle.index_loader.specs.Kinds.{slot_of}
