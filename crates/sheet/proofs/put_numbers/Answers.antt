use mathlib.Core.Path.{◌∙◌}
use native.Mathlib.Omega.{arith}
use Rattle.words.proofs.Laws.{length_words_of}
use Rattle.sheet.proofs.Stores.{number_put, numbers_put}
use Rattle.sheet.proofs.put_numbers.Goals as goal

pub put_word-requires : goal.put_word-requires
put_word-requires c = omega (arith, length_words_of c.loop-k.sheet)

pub loop-k-preserved : goal.loop-k-preserved
loop-k-preserved c = let h = c.loop-k.invariant in (c.put_word.auto.part ∙ h.0, number_put _ _ _ _ _ _ c.loop-k-test.true c.put_word.ensures h.1)

pub returns : goal.returns
returns c = search numbers_put
