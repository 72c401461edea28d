use mathlib.Core.Path.{sym, ap, ◌∙◌}
use Rattle.block.specs.Cases.{judged_of}
use Rattle.sheet.specs.Cases.{opened_of}
use Rattle.amending.proofs.Outcome.{look_ready}
use Rattle.amending.proofs.look.Goals as goal

pub returns-clause-ready : goal.returns-clause-ready
returns-clause-ready c = look_ready _ (sym c.judge.ensures ∙ ap judged_of c.in_ok-judge.was) (sym c.open.ensures ∙ ap opened_of c.in_ok-open.was) c.type_inv.block c.type_inv.sheet
