use Rattle.words.proofs.Laws.{length_words_of}
use mathlib.Core.Path.{sym, ◌∙◌}
use Rattle.words.proofs.count.Goals as goal

pub returns : goal.returns
returns c = c.words_of_bytes.ensures ∙ sym (length_words_of c.args.part.now)
