use Rattle.units.specs.Answers.{answered, packed_of}
use mathlib.Core.Path.{ap, ◌∙◌}
use Rattle.cedar.proofs.cedar_judge.Goals as goal

pub returns : goal.returns
returns c = c.pack.ensures ∙ ap packed_of (c.numbers.ensures.0 ∙ ap answered c.judge-judged.ensures)
