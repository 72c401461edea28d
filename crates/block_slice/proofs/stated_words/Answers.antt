use native.Mathlib.Omega.{arith}
use Rattle.words.proofs.Laws.{length_words_of}
use Rattle.block_slice.proofs.stated_words.Goals as goal

pub word_at-requires : goal.word_at-requires
word_at-requires c = omega (arith, length_words_of c.args.rest.now, c.requires)
