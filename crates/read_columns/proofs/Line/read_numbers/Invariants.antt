use Rattle.read_columns.proofs.Row.{Filling}
use Rattle.read_columns.proofs.Line.read_numbers.Given as goal

abbrev pub invariant-loop-k : goal.invariant-loop-k
invariant-loop-k l = Filling l.self.num.0 l.self.text.now l.initial.row l.initial.k l.k-end l.k l.row
