use mathlib.Core.Path.{◌∙◌}
use Rattle.units.proofs.Packing.{fitted_written}
use Rattle.read_columns.specs.Cases.{flaw_of}
use Rattle.read_text.proofs.built_numbers.Goals as goal

pub returns : goal.returns
returns c = (c.written.ensures.0 ∙ fitted_written 29 flaw_of c.args.b, c.written.ensures.1)
