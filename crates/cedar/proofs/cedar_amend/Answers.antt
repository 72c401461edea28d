use mathlib.Core.Path.{◌≡◌, ap}
use mathlib.Core.List.{[], ◌∷◌}
use Rattle.units.specs.Answers.{answered}
use Rattle.sheet.specs.Sheets.{version1}
use Rattle.amending.specs.Cases.{amended_of}
use Rattle.amending.specs.Amending.{buffers, amend}
use Rattle.cedar.specs.Calls.{amended_both}
use Rattle.cedar.proofs.cedar_amend.Goals as goal

pub returns : goal.returns
returns c = let a = c.args in
    let m = c.amend-amended in
    let amends : (buffers (answered (amended_of m.result)) m.new.block m.new.sheet ≡ amend version1 (a.number ∷ a.word ∷ a.old ∷ a.new ∷ []) a.block.now a.sheet.now) = m.ensures in
    rw (c.pack.ensures, c.numbers.ensures.0) (ap amended_both amends)
