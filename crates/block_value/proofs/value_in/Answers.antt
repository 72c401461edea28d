use native.Mathlib.Omega.{arith}
use Rattle.words.specs.Words.{words_of}
use Rattle.record.proofs.Values.{ValueAt}
use Rattle.block.proofs.Exact.{ok_long}
use Rattle.block_value.proofs.Located.{value_none, value_there, value-differs, value-stands}
use Rattle.block_value.proofs.value_in.Goals as goal

pub is_value-requires : goal.is_value-requires
is_value-requires c = search ok_long

pub returns-then-not-is_value : goal.returns-then-not-is_value
returns-then-not-is_value c = search value_none

pub overflow_sub-before : goal.overflow_sub-before
overflow_sub-before c = let there : ValueAt (words_of c.args.whole.now) c.args.word = search value_there in omega (arith, there)

pub word_at-found-requires : goal.word_at-found-requires
word_at-found-requires c = let there : ValueAt (words_of c.args.whole.now) c.args.word = search value_there in omega (arith, there)

pub returns-then-value-found : goal.returns-then-value-found
returns-then-value-found c = search value-differs

pub returns : goal.returns
returns c = search value-stands
