use mathlib.Core.Path.{◌≡◌, ap, ◌∙◌}
use Rattle.units.proofs.Packing.{fitted_is}
use Rattle.repacking.specs.Cases.{repacked_of}
use Rattle.cedar.specs.Calls.{converted}
use Rattle.cedar.proofs.cedar_repack.Goals as goal

pub returns : goal.returns
returns c = rw (c.pack.ensures, (let the_told : (c.numbers.result ≡ repacked_of c.repack-repacked.result) = let p = c.repack-repacked.ensures.packs in c.numbers.ensures.0 ∙ fitted_is _ p.a_fits p.b_fits in the_told)) (ap converted c.repack-repacked.ensures.outcome)
