use Rattle.std.proofs.Common.{rules}
use Prim.Native.Nat.{◌+◌, ◌≤◌}
use Rattle.words.proofs.Sealing.{sealed}
use Rattle.words.proofs.Laws.{length_words_of, all_below}
use Rattle.words.specs.Words.{words_of}
use lib.ListN.{length}
use native.Mathlib.Omega.{arith}
use Rattle.words.proofs.seal.Goals as goal

pub put_word-requires : goal.put_word-requires
put_word-requires c = omega (arith, (let the_room : (c.args.records.0 + 2 ≤ length (words_of c.args.block.now)) = omega (arith, length_words_of c.args.block.now, c.requires.1) in the_room))

pub span-requires : goal.span-requires
span-requires c = (omega arith, omega (arith, (let the_room_2 : (c.args.records.0 + 2 ≤ length (words_of c.put_word.new.part)) = omega (arith, length_words_of c.put_word.new.part, c.put_word.auto.part, c.requires.1) in the_room_2)))

pub put_word-requires-2 : goal.put_word-requires-2
put_word-requires-2 c = omega (arith, (let the_room_2 : (c.args.records.0 + 2 ≤ length (words_of c.put_word.new.part)) = omega (arith, length_words_of c.put_word.new.part, c.put_word.auto.part, c.requires.1) in the_room_2))

pub returns : goal.returns
returns c = let b = c.args.block.now in
    sealed b _ c.requires.1 (all_below 256 b (λ i. search rules))
    (rw (← c.saying_words.ensures) c.put_word.ensures) c.span.ensures c.exclusive_or-checksum.ensures c.put_word-2.ensures
