-- Document 02, request 1: the repacker, blocks in and blocks out.
use Rattle.std.specs.Prelude.{ℕ, List}
use Rattle.units.specs.Answers.{passed, onward}
use Rattle.words.specs.Outcomes.{Written, written}
use Rattle.block_slice.specs.Blocks.{blocks_in, records_in}
use Rattle.packing.specs.Packing.{repacked}

-- "Success has a = bytes written"; the slice's refusals, then "50 output too short, last of all, a = bytes needed"
unfoldable pub repack : List ℕ → List ℕ → Written
repack slice out = written 50 out (onward (blocks_in slice) (λ blocks. passed (repacked (records_in blocks))))
