use Rattle.read_cut.specs.Lines.{PlainOn}
use Rattle.read_cut.proofs.plain_upto.Given as goal

abbrev pub invariant-loop-i : goal.invariant-loop-i
invariant-loop-i l = PlainOn l.text l.at l.i
