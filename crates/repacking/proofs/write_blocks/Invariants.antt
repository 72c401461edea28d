use lib.ListN.{length}
use Rattle.repacking.proofs.Rewriting.{Rewriting}
use Rattle.repacking.proofs.write_blocks.Given as goal

abbrev pub invariant-loop-rest : goal.invariant-loop-rest
invariant-loop-rest l = Rewriting l.slice l.initial.out l.out l.rest l.current

abbrev pub decreases-loop-rest : goal.decreases-loop-rest
decreases-loop-rest l = length l.rest
