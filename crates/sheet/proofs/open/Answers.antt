use mathlib.Core.Path.{sym, ◌∙◌}
use native.Mathlib.Omega.{arith}
use Rattle.sheet.specs.Sheets.{version1, opened}
use Rattle.sheet.proofs.Stores.{unbroken_size}
use Rattle.sheet.proofs.open.Goals as goal

pub returns-then-is_broken : goal.returns-then-is_broken
unfolding opened
returns-then-is_broken c = rw (sym c.is_broken.ensures ∙ c.if-is_broken.true)

pub number_at-requires : goal.number_at-requires
number_at-requires c = omega (arith, unbroken_size version1 _ _ c.is_broken.ensures c.if-is_broken.false)

pub returns : goal.returns
unfolding opened
returns c = rw (sym c.is_broken.ensures ∙ c.if-is_broken.false, c.number_at.ensures)
