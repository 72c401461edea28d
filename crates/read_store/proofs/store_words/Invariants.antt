use Rattle.read_store.proofs.Storing.{Stored}
use Rattle.read_store.proofs.store_words.Given as goal

abbrev pub invariant-loop-k : goal.invariant-loop-k
invariant-loop-k l = Stored l.initial.out l.at.0 l.row l.from.0 l.k-end l.k l.out
