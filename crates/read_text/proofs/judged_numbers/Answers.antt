use mathlib.Core.Path.{◌∙◌}
use Rattle.units.proofs.Packing.{fitted_found}
use Rattle.read_columns.specs.Cases.{flaw_of}
use Rattle.read_text.proofs.judged_numbers.Goals as goal

pub returns : goal.returns
returns c = (c.numbers.ensures.0 ∙ fitted_found flaw_of c.args.j, c.numbers.ensures.1)
