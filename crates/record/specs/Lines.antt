-- Document 01, "The lines": how many lines a record takes.
use Rattle.std.specs.Prelude.{ℕ, List, eqb, length}
use Rattle.std.specs.Prelude.{if◌then◌else◌}
use Rattle.units.specs.Units.{lines_of_cards}
use Rattle.words.specs.Words.{word}
use Rattle.counts.specs.Counts.{counts_of, lines_needed}

-- a record's line count
unfoldable pub line_count : List ℕ → ℕ
line_count r =
    if eqb (word r 2) 1002 then lines_needed (counts_of r)
    else lines_of_cards (length r)
