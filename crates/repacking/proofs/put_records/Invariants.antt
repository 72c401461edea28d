use Rattle.block.specs.Records.{records_of}
use Rattle.block_steps.proofs.Turns.{Loop}
use Rattle.repacking.proofs.Putting.{Putting}
use Rattle.repacking.proofs.put_records.Given as goal

abbrev pub invariant-loop-whole : goal.invariant-loop-whole
invariant-loop-whole l = Loop l.whole-iterator (Putting l.initial.out l.initial.to (records_of l.block) l.out l.to)
