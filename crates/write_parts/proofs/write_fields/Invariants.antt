use Rattle.write_parts.specs.Laid.{fields_of}
use Rattle.words.specs.Words.{pair_words}
use Rattle.words.proofs.Writing.{Going}
use lib.ListN.{drop}
use Rattle.write_parts.proofs.write_fields.Given as goal

abbrev pub invariant-loop-word : goal.invariant-loop-word
invariant-loop-word l = Going l.initial.out l.initial.to (fields_of (pair_words l.words)) l.out l.to (fields_of (drop l.word-index (pair_words l.words)))
