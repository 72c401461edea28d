use Rattle.block.specs.Records.{records_of}
use Rattle.block_steps.proofs.Turns.{Loop}
use Rattle.repacking.proofs.Counting.{Counting}
use Rattle.repacking.proofs.count_records.Given as goal

abbrev pub invariant-loop-whole : goal.invariant-loop-whole
invariant-loop-whole l = Loop l.whole-iterator (Counting l.initial.to l.to (records_of l.block))
