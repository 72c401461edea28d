use Rattle.write_parts.specs.Laid.{ended}
use Rattle.words.proofs.Writing.{Going}
use lib.ListN.{drop}
use Rattle.write_parts.proofs.write_cards.Given as goal

abbrev pub invariant-loop-card : goal.invariant-loop-card
invariant-loop-card l = Going l.initial.out l.initial.to (ended l.texts) l.out l.to (ended (drop l.card-index l.texts))
