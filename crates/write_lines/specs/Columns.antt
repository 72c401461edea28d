-- Where a word of a Data record stands in the record's text.
use Rattle.std.specs.Prelude.{ℕ, suc, ◌+◌, ◌-◌, List, [], ◌∷◌, ltb}
use Rattle.std.specs.Prelude.{if◌then◌else◌}
use Rattle.units.specs.Units.{columns_of_fields, ends_of_lines}
use Rattle.line_plan.specs.Plan.{data_plan}

-- how many of the lines end before field j, counted from 0
unfoldable pub ends_before : List ℕ → ℕ → ℕ
ends_before [] j = 0
ends_before (n ∷ ns) j = if ltb j n then 0 else suc (ends_before ns (j - n))

-- the bytes of a Data record's text before the word with j words before it: six columns for each of them, and the line ends
abbrev pub columns_before : List ℕ → ℕ → ℕ
columns_before r j = columns_of_fields j + ends_of_lines (ends_before (data_plan r) j)
