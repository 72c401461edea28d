use mathlib.Core.Path.{◌≡◌, ap}
use Rattle.units.specs.Answers.{answered}
use Rattle.sheet.specs.Sheets.{version1}
use Rattle.amending.specs.Cases.{amended_of}
use Rattle.amending.specs.Amending.{buffers, undo}
use Rattle.cedar.specs.Calls.{amended_both}
use Rattle.cedar.proofs.cedar_undo.Goals as goal

pub returns : goal.returns
returns c = let a = c.args in
    let m = c.undo-amended in
    let undoes : (buffers (answered (amended_of m.result)) m.new.block m.new.sheet ≡ undo version1 a.block.now a.sheet.now) = m.ensures in
    rw (c.pack.ensures, c.numbers.ensures.0) (ap amended_both undoes)
