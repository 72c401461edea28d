use native.Mathlib.Omega.{arith}
use Rattle.words.specs.Words.{words_of}
use Rattle.words.proofs.Writing.{first_fits, second_fits, both-put}
use Rattle.block.proofs.Exact.{ok_long}
use Rattle.listed.proofs.Rows.{row_pieces}
use Rattle.listed.proofs.write_row.Goals as goal

pub word_at-instrument-requires : goal.word_at-instrument-requires
word_at-instrument-requires c = omega (arith, ok_long (words_of c.args.whole.now) c.requires.1.ok)

-- the front of the line, and the instrument
pub write_front-to-requires : goal.write_front-to-requires
write_front-to-requires c =
    (c.requires.0, c.requires.1, first_fits _ _ _ _ (row_pieces c.args.number c.args.before.0 _ (words_of c.args.whole.now) c.word_at-instrument.ensures) c.requires.2)

pub write_instrument-requires : goal.write_instrument-requires
write_instrument-requires c =
    second_fits _ _ _ _ (row_pieces c.args.number c.args.before.0 _ (words_of c.args.whole.now) c.word_at-instrument.ensures) c.requires.2 c.write_front-to.ensures

pub returns : goal.returns
returns c =
    both-put _ _ _ _ (row_pieces c.args.number c.args.before.0 _ (words_of c.args.whole.now) c.word_at-instrument.ensures) c.requires.2 c.write_front-to.ensures c.write_instrument.ensures
