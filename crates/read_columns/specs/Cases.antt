-- The paper's numbers for each way in which a text is refused.
use Rattle.std.specs.Prelude.{ℕ, Result}
use Rattle.units.specs.declared.Answer.{Answer}
use Rattle.units.specs.Answers.{answer, Verdict, verdict_of}
use Rattle.read_columns.specs.declared.Flaw.{Flaw}
use Rattle.read_columns.specs.declared.Flaw.TheVariants.{Byte, NoRecord, Field, Kind, Count, Ends, NotBlank, Range, Much, Long}

-- rows 20 to 28 and 30: n, the line's number, the column
abbrev pub flaw_of : Flaw → Answer
flaw_of (Byte line column) = answer 20 line.0 column.0 0
flaw_of NoRecord = answer 21 0 0 0
flaw_of (Field line column) = answer 22 line.0 column.0 0
flaw_of (Kind line) = answer 23 line.0 7 0
flaw_of (Count line) = answer 24 line.0 1 0
flaw_of (Ends line) = answer 25 line.0 1 0
flaw_of (NotBlank line column) = answer 26 line.0 column.0 0
flaw_of (Range line column) = answer 27 line.0 column.0 0
flaw_of (Much line) = answer 28 line.0 1 0
flaw_of Long = answer 30 0 0 0

-- what is read of a line, or the refusal
abbrev pub read_of : Result ℕ Flaw → Verdict ℕ
read_of = verdict_of (λ w. w) flaw_of

-- columns that hold what they must, and a value with them; or the refusal
abbrev pub tested_of : {A : Type 0} → A → Result (Unit {0}) Flaw → Verdict A
tested_of x = verdict_of (λ _. x) flaw_of
