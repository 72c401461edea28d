use mathlib.Core.Path.{ap}
use Rattle.cedar.specs.Calls.{converted}
use Rattle.cedar.proofs.cedar_sheet_start.Goals as goal

pub returns : goal.returns
returns c = rw (c.pack.ensures, c.numbers.ensures.0) (ap converted c.start-opened.ensures)
