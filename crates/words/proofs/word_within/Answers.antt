use Rattle.std.proofs.Common.{arith}
use Rattle.std.proofs.lemmas.Bool.Decides.{nat_tests}
use Rattle.words.specs.Scans.{word_within}
use Rattle.words.proofs.word_within.Goals as goal

pub returns-then-contains : goal.returns-then-contains
unfolding word_within
returns-then-contains c = grind (arith, nat_tests)

pub returns-else-contains : goal.returns-else-contains
unfolding word_within
returns-else-contains c = grind (arith, nat_tests)
