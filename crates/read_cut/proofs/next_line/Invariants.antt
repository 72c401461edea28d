use Rattle.read_cut.proofs.FirstLine.{Sought}
use Rattle.read_cut.proofs.next_line.Given as goal

abbrev pub invariant-loop-i : goal.invariant-loop-i
invariant-loop-i l = Sought l.text l.first l.i
