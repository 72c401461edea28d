use Rattle.std.proofs.Common.{arith}
use Rattle.std.proofs.lemmas.Grind.{common_steps}
use Rattle.sheet.specs.Sheets.{broken}
use Rattle.sheet.proofs.is_broken.Goals as goal

pub returns-then-sheet-ne-SIZE : goal.returns-then-sheet-ne-SIZE
unfolding broken
returns-then-sheet-ne-SIZE c = grind (arith, common_steps)

pub returns-then-sheet-ne0 : goal.returns-then-sheet-ne0
unfolding broken
returns-then-sheet-ne0 c = grind (arith, common_steps)

pub returns-else-sheet-ne0 : goal.returns-else-sheet-ne0
unfolding broken
returns-else-sheet-ne0 c = grind (arith, common_steps)
