-- Document 01, "The binary block": the four counts of a Data record, and what they need.
use Rattle.std.specs.Prelude.{ℕ, ◌+◌, ◌*◌, List, Bool, ◌||◌, ltb, leb, ⊤, Result, Ok, Err}
use Rattle.std.specs.Prelude.{if◌then◌else◌}
use Rattle.units.specs.Units.{lines_of_fields}
use Rattle.words.specs.Words.{word}
use Rattle.words.specs.Scans.{within}
use Rattle.counts.specs.declared.Counts.{Counts}
use Rattle.counts.specs.declared.Count.{Count}
use Rattle.counts.specs.declared.Count.TheVariants.{Lprol, Jpar, Mpar, Nrow}

-- "words 13 to 16 are LPROL, JPAR, MPAR, NROW"
abbrev pub counts_of : List ℕ → Counts
counts_of r = record { lprol = word r 13; jpar = word r 14; mpar = word r 15; nrow = word r 16 }

-- "LTOT = LPROL + 2 JPAR + MPAR (NROW + 1)"
abbrev pub words_needed : Counts → ℕ
words_needed c = c.lprol + 2 * c.jpar + c.mpar * (c.nrow + 1)

-- "Data prologue, 1-D codes, 1-D values, 2-D codes and each 2-D row each begin on a new line"
abbrev pub lines_needed : Counts → ℕ
lines_needed c = lines_of_fields c.lprol + 2 * lines_of_fields c.jpar + lines_of_fields c.mpar * (c.nrow + 1)

-- under its least value, as two's complement has it
unfoldable pub under_least : ℕ → ℕ → Bool
under_least least w = ltb w least || leb 32768 w

-- "LPROL is at least 16, the others at least 0": how many of the four are, before the first that is not
unfoldable pub in_range : Counts → ℕ
in_range c =
    if under_least 16 c.lprol then 0
    else if under_least 0 c.jpar then 1
    else if under_least 0 c.mpar then 2
    else if under_least 0 c.nrow then 3
    else 4

-- how many stand before this one
abbrev pub order_of : Count → ℕ
order_of Lprol = 0
order_of Jpar = 1
order_of Mpar = 2
order_of Nrow = 3

-- the number of `in_range`, as a result tells it: all four are, or which is the first that is not
abbrev pub range_of : Result ⊤ Count → ℕ
range_of (Ok x) = 4
range_of (Err c) = order_of c

-- "JPAR codes follow the prologue, then JPAR values, MPAR codes, and NROW rows of MPAR values": word w is one of the values
abbrev pub among_values : Counts → ℕ → Bool
among_values c w =
    let codes = c.lprol + c.jpar in
    let values = codes + c.jpar in
    within (codes + 1) values w || within (values + c.mpar + 1) (words_needed c) w
