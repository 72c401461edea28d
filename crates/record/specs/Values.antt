-- Document 01, "The amendment sheet": which words of a record may be amended.
use Rattle.std.specs.Prelude.{ℕ, List, Bool, ◌&&◌, eqb}
use Rattle.words.specs.Words.{word}
use Rattle.counts.specs.Counts.{counts_of, among_values}

-- "Only 1-D and 2-D values may be amended, not codes or prologue"
unfoldable pub is_value : List ℕ → ℕ → Bool
is_value r w = eqb (word r 2) 1002 && among_values (counts_of r) w
