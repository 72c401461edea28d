use mathlib.Core.Path.{◌≡◌, ap, ◌∙◌}
use Rattle.units.proofs.Packing.{fitted_is}
use Rattle.read_text.specs.Cases.{built_of}
use Rattle.cedar.specs.Calls.{converted}
use Rattle.cedar.proofs.cedar_write_block.Goals as goal

pub returns : goal.returns
returns c = rw (c.pack.ensures, (let the_told : (c.built_numbers.result ≡ built_of c.write_block-built.result) = let p = c.write_block-built.ensures.packs in c.built_numbers.ensures.0 ∙ fitted_is _ p.a_fits p.b_fits in the_told)) (ap converted c.write_block-built.ensures.outcome)
