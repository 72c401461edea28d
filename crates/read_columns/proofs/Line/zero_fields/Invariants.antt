use Rattle.read_columns.proofs.Zeros.{Zeroing}
use Rattle.read_columns.proofs.Line.zero_fields.Given as goal

abbrev pub invariant-loop-k : goal.invariant-loop-k
invariant-loop-k l = Zeroing l.self.num.0 l.self.text.now l.initial.k l.k-end l.k
