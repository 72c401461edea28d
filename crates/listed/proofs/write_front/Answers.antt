use mathlib.Core.Path.{◌∙◌}
use native.Mathlib.Omega.{arith}
use Rattle.words.specs.Words.{words_of}
use Rattle.words.proofs.Writing.{first_fits, second_fits, both-put}
use Rattle.block.proofs.Exact.{ok_long}
use Rattle.write_lines.proofs.Sizes.{record_sized}
use Rattle.listed.proofs.Rows.{front_pieces}
use Rattle.listed.proofs.write_front.Goals as goal

pub word_at-requires : goal.word_at-requires
word_at-requires c = omega (arith, ok_long _ c.requires.1.ok)

pub line_count-lines-requires : goal.line_count-lines-requires
line_count-lines-requires c = ok_long _ c.requires.1.ok

pub overflow_cast-lines : goal.overflow_cast-lines
overflow_cast-lines c = omega (arith, c.line_count-lines.ensures, (record_sized _ c.requires.1.ok).count_most)

-- the record's number, and the four numbers as they are read
pub write_number-to-requires : goal.write_number-to-requires
write_number-to-requires c =
    first_fits _ _ _ _ (front_pieces c.args.number c.args.before.0 _ _ _ (words_of c.args.whole.now) (c.from-kind.ensures ∙ c.word_at.ensures) c.count-count.ensures c.line_count-lines.ensures) c.requires.2

pub write_spaced-requires : goal.write_spaced-requires
write_spaced-requires c =
    second_fits _ _ _ _ (front_pieces c.args.number c.args.before.0 _ _ _ (words_of c.args.whole.now) (c.from-kind.ensures ∙ c.word_at.ensures) c.count-count.ensures c.line_count-lines.ensures) c.requires.2 c.write_number-to.ensures

pub returns : goal.returns
returns c =
    both-put _ _ _ _ (front_pieces c.args.number c.args.before.0 _ _ _ (words_of c.args.whole.now) (c.from-kind.ensures ∙ c.word_at.ensures) c.count-count.ensures c.line_count-lines.ensures) c.requires.2 c.write_number-to.ensures c.write_spaced.ensures
