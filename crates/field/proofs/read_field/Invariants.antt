use Rattle.field.proofs.Columns.{Scanned}
use Rattle.field.proofs.read_field.Given as goal

abbrev pub invariant-loop-b : goal.invariant-loop-b
invariant-loop-b l = Scanned l.field l.b-index l.s
