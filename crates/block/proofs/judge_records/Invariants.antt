use lib.ListN.{length}
use Rattle.words.specs.Words.{words_of}
use Rattle.block.proofs.Walk.{Judging}
use Rattle.block.proofs.judge_records.Given as goal

abbrev pub invariant-loop-rest : goal.invariant-loop-rest
invariant-loop-rest l = Judging (words_of l.inner) (words_of l.rest) l.number

abbrev pub decreases-loop-rest : goal.decreases-loop-rest
decreases-loop-rest l = length l.rest
