-- Document 01, "The lines": the standard lines of a record, over its words.
use Rattle.std.specs.Prelude.{ℕ, ◌+◌, ◌-◌, List, ◌∷◌, eqb, take, drop}
use Rattle.std.specs.Prelude.{if◌then◌else◌}
use Rattle.words.specs.Words.{word, words_of}
use Rattle.record.specs.Lines.{line_count}
use Rattle.units.specs.Units.{Line, columns_of_fields, bytes_of_words}
use Rattle.line_plan.specs.Plan.{data_plan, shown_words}
use Rattle.block.specs.Rules.{BlockRecord}
use Rattle.words.specs.Writing.{Room}
use Rattle.write_parts.specs.Laid.{fields_of, laid, card_lines, ended}

-- a record's lines; "a Catalogue or Header prologue is one line of 20 fields"
unfoldable pub lines_of : List ℕ → List Line
lines_of r =
    if eqb (word r 2) 1002 then laid (data_plan r) (shown_words r)
    else fields_of (take 20 (shown_words r)) ∷ card_lines (line_count r - 1) (drop 40 r)

-- the columns in the lines of a record of this kind with n words: a field has six, a card its words' bytes
abbrev pub columns_in : ℕ → ℕ → ℕ
columns_in kind n = if eqb kind 1002 then columns_of_fields n else columns_of_fields 20 + bytes_of_words (n - 40)

-- a record of a block, and room for its lines
pub record Writable (whole out : List ℕ) (at : ℕ) : Type 0 where
  pub good : BlockRecord (words_of whole)
  pub room : Room out at (ended (lines_of (words_of whole)))
