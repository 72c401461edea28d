use mathlib.Core.Path.{ap, ◌∙◌}
use Rattle.units.specs.Answers.{answered, packed_of}
use Rattle.units.proofs.Packing.{fitted_is}
use Rattle.cedar.proofs.cedar_judge_lines.Goals as goal

-- the numbers are the answer's, since it packs
pub returns : goal.returns
returns c = let j = c.judge_lines-judged.ensures in
    c.pack.ensures ∙ ap packed_of (c.judged_numbers.ensures.0 ∙ fitted_is _ j.packs.a_fits j.packs.b_fits ∙ ap answered j.outcome)
