use Rattle.block_steps.proofs.Turns.{Loop}
use Rattle.write_lines.proofs.Sizes.{Counted}
use Rattle.write_lines.proofs.text_size.Given as goal

abbrev pub invariant-loop-whole : goal.invariant-loop-whole
invariant-loop-whole l = Loop l.whole-iterator (Counted l.block l.bytes)
