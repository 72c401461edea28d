use Rattle.read_records.proofs.Loop.{Reading}
use lib.ListN.{length}
use Rattle.read_first_line.specs.State.{to_come}
use Rattle.read_records.proofs.read.Given as goal

abbrev pub invariant-loop-left : goal.invariant-loop-left
invariant-loop-left l = Reading l.text l.initial.block l.block l.left (to_come l.next.rest) l.next.held.0 l.num

abbrev pub decreases-loop-left : goal.decreases-loop-left
decreases-loop-left l = length l.left
