use Rattle.block.proofs.Size.{size_right}
use native.Mathlib.Omega.{arith}
use mathlib.Core.Path.{sym, ◌∙◌}
use Rattle.block.proofs.judge.Goals as goal

pub word_at-requires : goal.word_at-requires
word_at-requires c = omega (arith, size_right c.args.block.now (sym c.wrong_size.ensures ∙ c.if-wrong_size.false))

pub judge_words-requires : goal.judge_words-requires
judge_words-requires c = let s = size_right c.args.block.now (sym c.wrong_size.ensures ∙ c.if-wrong_size.false) in (s.least, s.most)
