-- Document 02, request 1: what a slice of blocks is, with no order of tests in it.
use Rattle.std.specs.Prelude.{◌≡◌, List, ℕ, ◌≤◌, length}
use Rattle.words.specs.Words.{joined, All}
use Rattle.block.specs.Judging.{Accepted}
use Rattle.block_slice.specs.Blocks.{most_bytes}

-- these bytes are these blocks: "blocks one after the other in a lent slice of up to 64,000 bytes", each accepted
pub record IsSlice (slice : List ℕ) (blocks : List (List ℕ)) : Type 0 where
  pub size : length slice ≤ most_bytes
  pub parts : slice ≡ joined blocks
  pub each : All Accepted blocks
