-- The paper's numbers for each case of what is found of a value.
use Rattle.std.specs.Prelude.{ℕ, Result}
use Rattle.units.specs.declared.Answer.{Answer}
use Rattle.units.specs.declared.Words.{Words}
use Rattle.units.specs.Answers.{answer, Verdict, verdict_of}
use Rattle.block_value.specs.declared.Obstacle.{Obstacle}
use Rattle.block_value.specs.declared.Obstacle.TheVariants.{NoSuchRecord, NoValue, Differs}

-- rows 41 to 43
abbrev pub obstacle_of : Obstacle → Answer
obstacle_of NoSuchRecord = answer 41 0 0 0
obstacle_of NoValue = answer 42 0 0 0
obstacle_of (Differs found) = answer 43 found 0 0

-- the words before a value, or the refusal
abbrev pub spot_of : Result Words Obstacle → Verdict ℕ
spot_of = verdict_of (λ at. at.0) obstacle_of
