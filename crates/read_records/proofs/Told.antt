-- A refusal of the reader, at a line and a column.
use Prim.Native.Nat.{ℕ, ◌^◌, ◌<◌}
use native.Mathlib.Omega.{arith}
use Rattle.units.specs.Answers.{answer}
use Rattle.units.proofs.Told.{Told}
use Rattle.read_records.specs.Cases.{TextRow}

pub told : (n line column : ℕ) → TextRow n → line < 2 ^ 24 → column < 2 ^ 16 → Told TextRow (answer n line column 0)
told n line column row hl hc = record { listed = row; packs = omega arith }
