use mathlib.Core.Path.{◌∙◌}
use Rattle.read_columns.proofs.Handed.{handed_on}
use Rattle.read_text.proofs.Known.{lines_promised}
use Rattle.read_text.proofs.Outcome.{words_read, flaw_read, words_most, size_judged, refusal_judged}
use Rattle.read_text.proofs.judge_lines.Goals as goal

pub returns-in_err-records : goal.returns-in_err-records
returns-in_err-records c = lines_promised _ (handed_on _ c.in_err-records.field-0.0 _ c.from_residual.ensures ∙ refusal_judged _ (flaw_read _ _ _ c.in_err-records.was c.judge_records.ensures))

pub block_size-size-requires : goal.block_size-size-requires
block_size-size-requires c = words_most _ _ (words_read _ _ _ c.in_ok-records.was c.judge_records.ensures)

pub returns : goal.returns
returns c = lines_promised _ (size_judged _ _ (words_read _ _ _ c.in_ok-records.was c.judge_records.ensures) c.block_size-size.ensures)
