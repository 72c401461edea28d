-- The tables are computed.
use mathlib.Core.Path.{◌≡◌, refl, sym, ap}
use mathlib.Core.List.{List, flatten}
use Prim.Native.Nat.{ℕ, ◌<◌}
use lib.ListN.{length, replicate}
use Rattle.units.specs.Answers.{answer}
use lib.Count.{ones, ones_in}
use Rattle.units.specs.Decimal.{decimal}
use Rattle.words.specs.Words.{words_of, bytes_of, xor_all, joined, framed}
use Rattle.words.specs.Scans.{passing, word_within}
use Rattle.words.specs.Outcomes.{Written, leaves, written}
use Rattle.counts.specs.Counts.{under_least, in_range}
use Rattle.record.specs.Judging.{wrong_total, judge_content, judge_cards, judge_counts, judge_data, judge_record}
use Rattle.record.specs.Lines.{line_count}
use Rattle.record.specs.Values.{is_value}
use Rattle.block.specs.Judging.{wrong_size, walk, judged}
use Rattle.block.specs.Records.{cut, records_of}
use Rattle.field.specs.Writing.{field_of}
use Rattle.field.specs.Reading.{read_field, columns}
use Rattle.report.specs.Text.{bytes_from}
use Rattle.line_plan.specs.Plan.{part, times, plan}
use Rattle.write_parts.specs.Laid.{fields_of, laid, card_lines, ended}
use Rattle.write_lines.specs.Lines.{lines_of}
use Rattle.write_lines.specs.Text.{text_of, to_lines}
use Rattle.read_cut.specs.Lines.{onto, end_length, lines_in}
use Rattle.read_columns.specs.Columns.{right_to, plain_line, blank_after, number, field_numbers, zero_field, zero_fields}
use Rattle.read_first_line.specs.FirstLine.{catalogue_fields, header_fields, counts_in, count_fields, prologue_fields, data_fields, kind_fields, first_fields, cards_room, data_room, first_line}
use Rattle.read_line.specs.Lines.{later_fields, in_state, read_line, at_end, read_lines}
use Rattle.read_records.specs.Reading.{read_text}
use Rattle.read_text.specs.Block.{judge_lines, write_block}
use Rattle.sheet.specs.Sheets.{sheet_of, sheet_with, entries_of, entries, opened, started, broken, all_zero}
use Rattle.block_value.specs.Places.{no_record, stands}
use Rattle.amending.specs.Amending.{amendable, undoable, on_both}
use Rattle.block_slice.specs.Blocks.{wrong_first, judge_stated, judge_next, walk_blocks, blocks_in}
use Rattle.packing.specs.Packing.{packed, groups, repacked}
use Rattle.repacking.specs.Repacking.{repack}
use Rattle.read_records.proofs.Outcome as text
use Rattle.repacking.proofs.Outcome as packed-again
use Rattle.refusals.specs.Questions.{AnsweredSo, turned, word_put, cut_to}
use Rattle.refusals.specs.Refusals.{stated_blocks, bad_blocks, block_trials, bad_texts, text_trials, room_trials, sheet_trials, amend_trials, undo_trials, bad_slices, repack_trials, EveryRefusal}
use Rattle.refusals.specs.Orders.{every_two, size_order, checksum_order, frame_order, two_data_order, short_catalogue_order, cards_order, block_orders, own_order, records_order, lines_orders, on_line, data_lines_order, left_to_right, first_line_order, card_lines_order, blank_lines_order, text_orders, amend_orders, undo_orders, start_order, repack_orders, EveryOrder, LongFirst, LongSliceFirst}

-- of slices of blocks, by themselves: together with the others they are more than one declaration may compute
slices : AnsweredSo repack_trials × AnsweredSo repack_orders
unfolding stated_blocks bad_slices repack_trials every_two checksum_order own_order start_order repack_orders turned word_put cut_to judged wrong_size walk judge_record judge_cards judge_content judge_data judge_counts in_range wrong_total under_least passing word_within words_of bytes_of xor_all ones ones_in records_of cut written framed joined flatten wrong_first judge_stated judge_next walk_blocks blocks_in packed groups repacked repack
slices = (refl, refl)

-- both tables: one equation for each call
tables : EveryRefusal × EveryOrder
unfolding stated_blocks bad_blocks block_trials bad_texts text_trials room_trials sheet_trials amend_trials undo_trials every_two size_order checksum_order frame_order two_data_order short_catalogue_order cards_order block_orders own_order records_order lines_orders on_line data_lines_order left_to_right first_line_order card_lines_order blank_lines_order text_orders amend_orders undo_orders turned word_put cut_to judged wrong_size walk judge_record judge_cards judge_content judge_data judge_counts in_range wrong_total under_least passing word_within words_of bytes_of xor_all ones ones_in records_of cut to_lines written text_of ended lines_of laid card_lines plan part times fields_of field_of decimal line_count framed joined bytes_from judge_lines write_block read_text lines_in end_length onto read_lines at_end read_line in_state later_fields first_line first_fields kind_fields catalogue_fields header_fields data_fields count_fields counts_in prologue_fields data_room cards_room field_numbers zero_fields zero_field number read_field columns blank_after right_to plain_line sheet_of sheet_with entries_of entries opened started broken all_zero is_value no_record stands amendable undoable on_both
tables = ((refl, refl, refl, refl, refl, refl, slices.0), (refl, refl, refl, refl, refl, slices.1))

pub every_refusal : EveryRefusal
every_refusal = tables.0

pub every_order : EveryOrder
every_order = tables.1

-- the length is tested before any line, and then nothing is built
long_built : (lines out : List ℕ) → 65536 < length lines → write_block lines out ≡ leaves (answer 30 0 0 0) out
unfolding write_block written
long_built lines out h = simp (text.too_long lines h)

pub long_first : LongFirst
unfolding judge_lines
long_first lines room h = (simp (text.too_long lines h), ap (λ (w : Written). w.answer) (long_built lines (replicate room 0) h))

-- so with a slice's length, before any block
pub long_slice-first : LongSliceFirst
long_slice-first slice room h = ap (λ (w : Written). w.answer) (sym (packed-again.too_long slice (replicate room 0) h))
