-- The paper's numbers for each case of a conversion's answer.
use Rattle.std.specs.Prelude.{ℕ, ◌≡◌, ◌⊎◌, Result}
use Rattle.units.specs.declared.Answer.{Answer}
use Rattle.units.specs.declared.Bytes.{Bytes}
use Rattle.units.specs.declared.Unwritten.{Unwritten}
use Rattle.units.specs.Answers.{written_of}
use Rattle.block.specs.Cases.{BlockRow, refusal_of}
use Rattle.block.specs.declared.Refusal.{Refusal}

-- "To lines: the block, then 29"
abbrev pub LinesRow : ℕ → Type 0
LinesRow n = BlockRow n ⊎ (n ≡ 29)

-- the bytes written; the block's refusal; row 29 with the bytes needed
abbrev pub lined_of : Result Bytes (Unwritten Refusal) → Answer
lined_of = written_of 29 refusal_of
