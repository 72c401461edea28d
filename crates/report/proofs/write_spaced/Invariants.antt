use lib.ListN.{drop}
use Rattle.words.proofs.Writing.{Going}
use Rattle.report.specs.Decimal.{spaced}
use Rattle.report.proofs.write_spaced.Given as goal

abbrev pub invariant-loop-n : goal.invariant-loop-n
invariant-loop-n l = Going l.initial.out l.initial.to (spaced l.numbers) l.out l.to (spaced (drop l.n-index l.numbers))
