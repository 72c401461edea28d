-- What judging lines, and writing their block, promise.
use Rattle.std.specs.Prelude.{◌≡◌, List, ℕ, Result}
use Rattle.units.specs.Answers.{answered, Packs}
use Rattle.words.specs.Outcomes.{leaves}
use Rattle.units.specs.declared.Bytes.{Bytes}
use Rattle.units.specs.declared.Unwritten.{Unwritten}
use Rattle.read_columns.specs.declared.Flaw.{Flaw}
use Rattle.read_text.specs.Cases.{judged_of, built_of}
use Rattle.read_text.specs.Block.{judge_lines, write_block}

-- `judge_lines`: how many bytes the block of these lines has, or their refusal; the answer's numbers can be packed
pub record JudgesLines (text : List ℕ) (r : Result Bytes Flaw) : Type 0 where
  pub outcome : judged_of r ≡ judge_lines text
  pub packs : Packs (answered (judged_of r))

-- `write_block`: the block of these lines into this one, and that afterwards; the answer's numbers can be packed
pub record WritesBlock (text block : List ℕ) (r : Result Bytes (Unwritten Flaw)) (after : List ℕ) : Type 0 where
  pub outcome : leaves (built_of r) after ≡ write_block text block
  pub packs : Packs (built_of r)
