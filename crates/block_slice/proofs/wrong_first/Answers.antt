use native.Mathlib.Omega.{arith}
use Rattle.std.proofs.lemmas.Bool.Decides.{nat_tests}
use Rattle.block_slice.specs.Blocks.{wrong_first}
use Rattle.block_slice.proofs.wrong_first.Goals as goal

pub returns : goal.returns
unfolding wrong_first
returns c = rw (c.contains.ensures.value, c.new.ensures.start, c.new.ensures.end, c.new.ensures.exhausted) (grind (arith, nat_tests))
