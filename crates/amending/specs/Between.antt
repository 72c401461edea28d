-- What the functions of this crate ask of each other.
use Rattle.std.specs.Prelude.{ℕ, List}
use Rattle.words.specs.Words.{Below}
use Rattle.block.specs.Judging.{Accepted}
use Rattle.sheet.specs.Sheets.{Layout}
use Rattle.sheet.specs.Rules.{Holds}

-- what a call goes on with: an accepted block, and a sheet that keeps its layout, with `count` entries
pub record Ready (y : Layout) (block sheet : List ℕ) (count : ℕ) : Type 0 where
  pub bytes : Below 256 block
  pub accepted : Accepted block
  pub holds : Holds y sheet count
