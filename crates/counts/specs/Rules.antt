-- Document 01, "The binary block": counts that are in range, with no order of tests in it.
use Rattle.std.specs.Prelude.{ℕ, ◌≤◌, ◌<◌}
use Rattle.counts.specs.declared.Counts.{Counts}

-- a count that is at least this, in two's complement
pub record Least (least w : ℕ) : Type 0 where
  pub least_is : least ≤ w
  pub sign : w < 32768

-- "LPROL is at least 16, the others at least 0"
pub record CountsOk (c : Counts) : Type 0 where
  pub lprol : Least 16 c.lprol
  pub jpar : Least 0 c.jpar
  pub mpar : Least 0 c.mpar
  pub nrow : Least 0 c.nrow
