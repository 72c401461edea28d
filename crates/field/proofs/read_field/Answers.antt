use Rattle.std.proofs.Common.{◌∙◌, arith, refl}
use Rattle.field.proofs.Columns.{column-on, read_whole, cut_short}
use Rattle.field.proofs.read_field.Goals as goal

pub returns-in_err-get : goal.returns-in_err-get
returns-in_err-get c = let a = c.args in c.from_residual.ensures ∙ cut_short a.line.now a.at.0 (grind (arith, c.in_err-get.ensures.lookup))

pub returns-in_err-field : goal.returns-in_err-field
returns-in_err-field c = let a = c.args in c.from_residual-in_err-field.ensures ∙ cut_short a.line.now a.at.0 (omega (arith, c.in_err-field.ensures.cases, c.in_ok-get.ensures.lookup))

pub loop-b-preserved : goal.loop-b-preserved
loop-b-preserved c = column-on c.in_ok-field.field.now c.loop-b.b-index c.loop-b.s c.loop-b.invariant _ _ (omega (arith, c.in_ok-field.ensures.cases)) refl c.after_column-s.ensures

pub returns : goal.returns
returns c = read_whole c.args.line.now c.args.at.0 c.in_ok-get.field-0.now c.in_ok-field.field.now _ _ c.loop-b.b-index c.in_ok-get.ensures.lookup.0.0 c.in_ok-get.ensures.lookup.0.2 c.in_ok-field.ensures.cases c.loop-b.invariant c.loop-b-test.false c.finish.ensures
