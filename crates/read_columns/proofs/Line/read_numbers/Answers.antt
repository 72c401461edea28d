use mathlib.Core.Path.{◌∙◌}
use Rattle.read_columns.proofs.Handed.{handed_on}
use Rattle.read_columns.proofs.Row.{filled, fill_done, fill-bad, fill-word}
use Rattle.read_columns.proofs.Line.read_numbers.Goals as goal

pub returns-in_err-row : goal.returns-in_err-row
unfolding filled
returns-in_err-row c = handed_on _ c.in_err-row.field-0.0 _ c.from_residual.ensures ∙ fill-bad _ c.loop-k.invariant c.number.result c.number.ensures c.loop-k-test.true c.in_err-row.was

pub loop-k-preserved : goal.loop-k-preserved
loop-k-preserved c = fill-word _ c.loop-k.invariant c.number.result c.number.ensures c.loop-k-test.true (c.in_ok-row.was)

pub returns : goal.returns
unfolding filled
returns c = fill_done _ c.loop-k.invariant c.loop-k-test.false
