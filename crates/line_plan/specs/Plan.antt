-- Document 01, "The lines": which fields stand on each line of a record, and what its first two fields show. Writing and reading share this.
use Rattle.std.specs.Prelude.{ℕ, zero, suc, ◌+◌, ◌/◌, ◌%◌, List, [], ◌∷◌, ◌++◌, eqb, drop, replicate}
use Rattle.std.specs.Prelude.{if◌then◌else◌}
use Rattle.words.specs.Words.{word}
use Rattle.counts.specs.declared.Counts.{Counts}
use Rattle.counts.specs.Counts.{counts_of}
use Rattle.record.specs.Lines.{line_count}

-- a last line of n fields; "a part with no fields takes no line"
abbrev pub shorter : ℕ → List ℕ
shorter zero = []
shorter (suc n) = suc n ∷ []

-- "take 20 fields a line": how many fields each line of a part of n fields has
unfoldable pub part : ℕ → List ℕ
part n = replicate (n / 20) 20 ++ shorter (n % 20)

-- k parts of the same lines
unfoldable pub times : ℕ → List ℕ → List ℕ
times zero ns = []
times (suc k) ns = ns ++ times k ns

-- behind the prologue: 1-D codes and 1-D values, two parts of JPAR fields; 2-D codes and the rows, NROW + 1 parts of MPAR fields
abbrev pub tables : Counts → List ℕ
tables c = times 2 (part c.jpar) ++ times (c.nrow + 1) (part c.mpar)

-- "Data prologue, 1-D codes, 1-D values, 2-D codes and each 2-D row each begin on a new line"
unfoldable pub plan : Counts → List ℕ
plan c = part c.lprol ++ tables c

-- the plan of a Data record
abbrev pub data_plan : List ℕ → List ℕ
data_plan r = plan (counts_of r)

-- "Kinds become 2101, 3101, 1101"
abbrev pub kind_shown : ℕ → ℕ
kind_shown kind = if eqb kind 2001 then 2101 else if eqb kind 3002 then 3101 else 1101

-- the words as the lines show them: "Field 1 is the record's line count", and field 2 its kind
abbrev pub shown_words : List ℕ → List ℕ
shown_words r = line_count r ∷ (kind_shown (word r 2) ∷ drop 2 r)
