use Rattle.words.proofs.Scans.{part_scan}
use Rattle.words.specs.Scans.{word_within}
use mathlib.Core.Path.{◌∙◌}
use Rattle.record.proofs.passing_in.Goals as goal

pub returns : goal.returns
returns c = let a = c.args in
    c.first_outside.ensures ∙ part_scan (word_within a.least a.most) a.from.0 a.upto.0 a.rest.now _ c.span.ensures
