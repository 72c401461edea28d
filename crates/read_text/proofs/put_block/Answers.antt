use native.Mathlib.Omega.{arith}
use Rattle.read_text.proofs.Outcome.{size_tells, words_most, block_short, block_built}
use Rattle.read_text.proofs.put_block.Goals as goal

pub block_size-needed-requires : goal.block_size-needed-requires
block_size-needed-requires c = words_most _ _ (size_tells _ _ c.requires)

pub returns-then-block-size : goal.returns-then-block-size
returns-then-block-size c = block_short _ _ _ (size_tells _ _ c.requires) c.block_size-needed.ensures c.if-block-size.true

pub seal-requires : goal.seal-requires
seal-requires c = (words_most _ _ (size_tells _ _ c.requires), omega (arith, c.read.auto.block, c.if-block-size.false, c.block_size-needed.ensures))

pub returns : goal.returns
returns c = block_built _ _ _ (size_tells _ _ c.requires) c.block_size-needed.ensures _ c.read.result c.if-block-size.false c.read.ensures c.seal.ensures
