-- What each C call answers, from the bytes and numbers lent to it.
use Rattle.std.specs.Prelude.{ℕ, List}
use Rattle.units.specs.declared.Answer.{Answer}
use Rattle.units.specs.Answers.{answered, packed_of}
use Rattle.words.specs.Outcomes.{Written}
use Rattle.block.specs.Judging.{judged}
use Rattle.read_text.specs.Block.{judge_lines}
use Rattle.amending.specs.Amending.{Outcome}
use Rattle.prefix.specs.Table.{prefix_of, answer_of}

-- "Judge a binary block": the number of records, or the first refusal
abbrev pub judge_answer : List ℕ → Answer
judge_answer block = answered (judged block)

-- document 02, request 2: "judges the text and gives the block's size in bytes"
abbrev pub judge_lines_answer : List ℕ → Answer
judge_lines_answer text = answered (judge_lines text)

-- "find an instrument's prefix"
abbrev pub prefix_answer : ℕ → Answer
prefix_answer instrument = answer_of (prefix_of instrument)

-- what a conversion returns to C, and the output as it is then
pub record Returned : Type 0 where
  pub number : ℕ
  pub out : List ℕ

-- a number returned and the output as it is then
abbrev pub returned : ℕ → List ℕ → Returned
returned number out = record { number = number; out = out }

-- "A C call returns them as one unsigned 64-bit number"
abbrev pub converted : Written → Returned
converted w = returned (packed_of w.answer) w.out

-- what a call on a block and its sheet returns to C, and both buffers as they are then
pub record ReturnedBoth : Type 0 where
  pub number : ℕ
  pub block : List ℕ
  pub sheet : List ℕ

-- a number returned and both buffers as they are then
abbrev pub returned_both : ℕ → List ℕ → List ℕ → ReturnedBoth
returned_both number block sheet = record { number = number; block = block; sheet = sheet }

-- "A C call returns them as one unsigned 64-bit number", here too
abbrev pub amended_both : Outcome → ReturnedBoth
amended_both a = returned_both (packed_of a.answer) a.block a.sheet
