-- The paper's numbers for each case of what becomes of a block and its sheet.
use Rattle.std.specs.Prelude.{ℕ, Result}
use Rattle.units.specs.declared.Answer.{Answer}
use Rattle.units.specs.Answers.{answer, Verdict, verdict_of}
use Rattle.block.specs.Cases as block
use Rattle.block_value.specs.Cases.{obstacle_of}
use Rattle.amending.specs.declared.Objection.{Objection}
use Rattle.amending.specs.declared.Objection.TheVariants.{Block, Broken, Value, Full, Empty, NotStanding}

-- the block's refusals, and rows 40 to 46
abbrev pub objection_of : Objection → Answer
objection_of (Block r) = block.refusal_of r
objection_of Broken = answer 40 0 0 0
objection_of (Value o) = obstacle_of o
objection_of Full = answer 44 0 0 0
objection_of Empty = answer 45 0 0 0
objection_of NotStanding = answer 46 0 0 0

-- how many amendments stand, or the refusal
abbrev pub amended_of : Result ℕ Objection → Verdict ℕ
amended_of = verdict_of (λ count. count) objection_of
