use mathlib.Core.Path.{ap}
use Prim.Native.Nat.{◌+◌}
use native.Mathlib.Omega.{arith}
use Rattle.read_columns.specs.Columns.{is_blank}
use Rattle.read_columns.proofs.Leading.{leading, leading-le}
use Rattle.read_columns.proofs.Line.blank_to.Goals as goal

pub overflow_add-result : goal.overflow_add-result
overflow_add-result c = omega (arith, leading-le is_blank c.args.from.0 _ _ c.args.self.text.now c.min-first.ensures c.blanks.ensures)

pub returns : goal.returns
returns c = ap (λ n. c.args.from.0 + n) (leading is_blank c.args.from.0 _ _ c.args.self.text.now c.min-first.ensures c.blanks.ensures)
