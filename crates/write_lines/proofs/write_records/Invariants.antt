use Rattle.words.proofs.Writing.{Going}
use Rattle.block.specs.Records.{records_of}
use Rattle.block_steps.proofs.Turns.{Loop}
use Rattle.write_lines.specs.Text.{text_of}
use Rattle.write_lines.proofs.write_records.Given as goal

abbrev pub invariant-loop-whole : goal.invariant-loop-whole
invariant-loop-whole l = Loop l.whole-iterator (λ rs. Going l.initial.out 0 (text_of (records_of l.block)) l.out l.to.0 (text_of rs))
