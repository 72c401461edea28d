use mathlib.Core.Path.{◌∙◌}
use Rattle.read_columns.proofs.Handed.{handed_on}
use Rattle.read_columns.proofs.Zeros.{zeros-on, zeros-bad, zeros-done}
use Rattle.read_columns.proofs.Line.zero_fields.Goals as goal

pub returns-in_err-zero_field : goal.returns-in_err-zero_field
returns-in_err-zero_field c = handed_on _ c.in_err-zero_field.field-0.0 _ c.from_residual.ensures ∙ zeros-bad _ c.loop-k.invariant c.loop-k-test.true _ c.zero_field.ensures c.in_err-zero_field.was

pub loop-k-preserved : goal.loop-k-preserved
loop-k-preserved c = zeros-on _ c.loop-k.invariant c.loop-k-test.true _ c.zero_field.ensures c.in_ok-zero_field.was

pub returns : goal.returns
returns c = zeros-done _ c.loop-k.invariant c.loop-k-test.false
