use mathlib.Core.Path.{◌∙◌}
use Rattle.sheet.proofs.Stores.{start_refused, start_put}
use Rattle.sheet.proofs.start.Goals as goal

pub returns-then-sheet-ne-SIZE : goal.returns-then-sheet-ne-SIZE
returns-then-sheet-ne-SIZE c = search start_refused

pub returns : goal.returns
returns c = start_put _ _ _ _ c.if-sheet-ne-SIZE.false (c.fill.ensures.after (λ y e. e)) c.copy_from_slice.ensures.after (c.copy_from_slice-2.ensures.after ∙ c.to_be_bytes.ensures)
