use mathlib.Core.Path.{◌≡◌, ap, ◌∙◌}
use Rattle.units.proofs.Packing.{fitted_is}
use Rattle.write_lines.specs.Cases.{lined_of}
use Rattle.cedar.specs.Calls.{converted}
use Rattle.cedar.proofs.cedar_to_lines.Goals as goal

pub returns : goal.returns
returns c = rw (c.pack.ensures, (let the_told : (c.numbers.result ≡ lined_of c.to_lines-lined.result) = let p = c.to_lines-lined.ensures.packs in c.numbers.ensures.0 ∙ fitted_is _ p.a_fits p.b_fits in the_told)) (ap converted c.to_lines-lined.ensures.outcome)
