use mathlib.Core.Path.{ap, ◌∙◌}
use Rattle.words.specs.Words.{words_of, bytes_of}
use Rattle.block_steps.proofs.Walking.{first_words, no_words}
use Rattle.block_steps.proofs.record_at.Goals as goal

pub returns-in-Some : goal.returns-in-Some
returns-in-Some c = c.in-Some.ensures.1 ∙ ap bytes_of (first_words (words_of c.args.block.now) c.args.at.0 c.in-Some.ensures.0)

pub returns-in-None : goal.returns-in-None
unfolding bytes_of
returns-in-None c = rw (no_words (words_of c.args.block.now) c.args.at.0 c.in-None.ensures)
