-- What block to lines promises.
use Rattle.std.specs.Prelude.{◌≡◌, List, ℕ, Result}
use Rattle.units.specs.Answers.{Packs}
use Rattle.words.specs.Outcomes.{leaves}
use Rattle.units.specs.declared.Bytes.{Bytes}
use Rattle.units.specs.declared.Unwritten.{Unwritten}
use Rattle.block.specs.declared.Refusal.{Refusal}
use Rattle.write_lines.specs.Cases.{lined_of}
use Rattle.write_lines.specs.Text.{to_lines}

-- `to_lines`: "block to character lines" of these bytes into this text, and the text afterwards; the answer's numbers can be packed
pub record WritesLines (block text : List ℕ) (r : Result Bytes (Unwritten Refusal)) (after : List ℕ) : Type 0 where
  pub outcome : leaves (lined_of r) after ≡ to_lines block text
  pub packs : Packs (lined_of r)
