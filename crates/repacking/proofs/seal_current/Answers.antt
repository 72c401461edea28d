use mathlib.Core.Path.{refl}
use Rattle.packing.specs.Current.{current_after}
use Rattle.repacking.proofs.Writing.{sealed_there}
use Rattle.repacking.proofs.seal_current.Goals as goal

pub returns : goal.returns
unfolding current_after
returns c = sealed_there c.args.out.now c.args.current c.requires.room c.seal.ensures refl
