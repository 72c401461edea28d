use lib.ListN.{length}
use Rattle.repacking.proofs.Judging.{Judging}
use Rattle.repacking.proofs.judge_blocks.Given as goal

abbrev pub invariant-loop-rest : goal.invariant-loop-rest
invariant-loop-rest l = Judging l.slice l.rest l.number l.current

abbrev pub decreases-loop-rest : goal.decreases-loop-rest
decreases-loop-rest l = length l.rest
