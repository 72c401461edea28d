use Rattle.prefix.specs.Table.{answer_of}
use Rattle.units.specs.Answers.{packed_of}
use mathlib.Core.Path.{ap, ◌∙◌}
use Rattle.cedar.proofs.cedar_prefix.Goals as goal

pub returns : goal.returns
returns c = c.pack.ensures ∙ ap packed_of (c.numbers.ensures.0 ∙ ap answer_of c.prefix_of-letters.ensures)
