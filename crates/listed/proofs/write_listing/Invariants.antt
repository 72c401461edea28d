use Rattle.std.proofs.Common.{List, ℕ, ◌+◌, ◌<◌, ◌≤◌, length}
use Rattle.std.specs.Iterator.Adapters.{zip_first, zip_second}
use Rattle.words.specs.Words.{joined, most_words}
use Rattle.words.proofs.Writing.{Going}
use Rattle.block.specs.Records.{records_of}
use Rattle.block_steps.proofs.Turns.{Loop}
use Rattle.listed.specs.Listing.{rows_of}
use Rattle.listed.proofs.write_listing.Given as goal

-- the lines of the records that are left are still to be put
pub record Rows (block before out : List ℕ) (at number to : ℕ) (rs : List (List ℕ)) : Type 0 where
  pub few : number ≤ at
  pub within : at + length (joined rs) < most_words
  pub going : Going before 0 (rows_of 1 1 (records_of block)) out to (rows_of number at rs)

abbrev pub invariant-loop-number : goal.invariant-loop-number
invariant-loop-number l = Loop (zip_second l.number-iterator) (Rows l.block l.initial.out l.out l.at (zip_first l.number-iterator).start l.to.0)
