-- The rows of the paper's examples are worked.
use mathlib.Core.Path.{refl}
use mathlib.Core.List.{flatten}
use lib.Count.{ones, ones_in}
use Rattle.words.specs.Words.{words_of, bytes_of, xor_all, joined, framed}
use Rattle.counts.specs.Counts.{under_least, in_range}
use Rattle.record.specs.Judging.{wrong_total, judge_content, judge_cards, judge_counts, judge_data, judge_record}
use Rattle.words.specs.Scans.{passing, word_within}
use Rattle.block.specs.Judging.{wrong_size, walk, judged}
use Rattle.record.specs.Lines.{line_count}
use Rattle.block.specs.Records.{cut, records_of}
use Rattle.field.specs.Writing.{field_of}
use Rattle.units.specs.Decimal.{decimal}
use Rattle.field.specs.Reading.{read_field, columns}
use Rattle.read_columns.specs.Columns.{number}
use Rattle.report.specs.Text.{bytes_from, behind, line_of}
use Rattle.report.specs.Decimal.{decimal_of}
use Rattle.report.specs.Refusal.{refusal_line}
use Rattle.listed.specs.Listing.{signed_of, row_of, rows_of}
use Rattle.write_parts.specs.Laid.{fields_of, laid, ended}
use Rattle.line_plan.specs.Plan.{part, times, plan}
use Rattle.write_lines.specs.Lines.{lines_of}
use Rattle.words.specs.Outcomes.{written}
use Rattle.write_lines.specs.Text.{text_of, to_lines}
use Rattle.prefix.specs.LookUp.{beside}
use Rattle.prefix.specs.Table.{table}
use Rattle.record.specs.Values.{is_value}
use Rattle.sheet.specs.Sheets.{sheet_of, sheet_with, entries_of, entries, opened, broken, all_zero}
use Rattle.block_value.specs.Places.{no_record, with_value, stands}
use Rattle.amending.specs.Amending.{amendable, undoable, on_both}
use Rattle.block_slice.specs.Blocks.{wrong_first, judge_stated, judge_next, walk_blocks, blocks_in}
use Rattle.packing.specs.Packing.{packed, groups, repacked}
use Rattle.repacking.specs.Repacking.{repack}
use Rattle.demands.specs.Examples.{block_k, block_least, paper_rows, PaperRows, prefix_rows, PrefixRows, listing_rows, ListingRows, RepackedK, read_rows, ReadRows, written_rows, WrittenRows}

pub paper_rows_lem : PaperRows
unfolding paper_rows block_k block_least judged wrong_size walk judge_record judge_cards judge_content judge_data judge_counts in_range wrong_total under_least passing word_within words_of bytes_of xor_all ones ones_in records_of cut to_lines written text_of ended lines_of laid plan part times fields_of field_of decimal line_count framed joined sheet_of sheet_with entries_of entries opened broken all_zero is_value no_record with_value stands amendable undoable on_both number read_field columns bytes_from
paper_rows_lem = refl

pub prefix_rows_lem : PrefixRows
unfolding prefix_rows table beside
prefix_rows_lem = refl

pub listing_rows_lem : ListingRows
unfolding listing_rows block_k words_of bytes_of xor_all under_least judge_counts judge_data judge_record wrong_size walk judged cut records_of line_count beside table bytes_from behind line_of decimal decimal_of signed_of row_of rows_of refusal_line in_range
listing_rows_lem = refl

pub repacked_k : RepackedK
unfolding block_k judged wrong_size walk judge_record judge_data judge_counts in_range under_least words_of bytes_of xor_all records_of cut written framed joined flatten wrong_first judge_stated judge_next walk_blocks blocks_in packed groups repacked repack
repacked_k = refl

pub read_rows_lem : ReadRows
unfolding read_rows number read_field columns bytes_from
read_rows_lem = refl

pub written_rows_lem : WrittenRows
unfolding written_rows field_of decimal bytes_from
written_rows_lem = refl
