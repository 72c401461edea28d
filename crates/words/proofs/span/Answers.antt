use Rattle.words.proofs.Lists.{part_slice}
use Prim.Native.Nat.{◌*◌}
use Rattle.words.proofs.Laws.{length_words_of}
use native.Mathlib.Omega.{arith}
use Rattle.words.proofs.span.Goals as goal

pub bytes_of_words-start-requires : goal.bytes_of_words-start-requires
bytes_of_words-start-requires c = omega (arith, c.requires.0, c.requires.1, length_words_of c.args.whole.now)

pub bytes_of_words-end-requires : goal.bytes_of_words-end-requires
bytes_of_words-end-requires c = omega (arith, c.requires.1, length_words_of c.args.whole.now)

pub slice_bounds-result-end : goal.slice_bounds-result-end
slice_bounds-result-end c = omega (arith, c.requires.1, length_words_of c.args.whole.now)

pub returns : goal.returns
returns c = rw (c.bytes_of_words-end.ensures, c.bytes_of_words-start.ensures) (part_slice (c.args.from.0 * 2) (c.args.upto.0 * 2) c.args.whole.now (omega (arith, c.requires.0)))
