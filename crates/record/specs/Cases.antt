-- The paper's numbers for each case of what is found of a record.
use Rattle.std.specs.Prelude.{ℕ, Result}
use Rattle.units.specs.declared.Answer.{Answer}
use Rattle.units.specs.Answers.{answer, Verdict, verdict_of}
use Rattle.record.specs.declared.Fault.{Fault}
use Rattle.record.specs.declared.Fault.TheVariants.{Short, Kind, Total, NotZero, Card, Counts}
use Rattle.units.specs.declared.Words.{Words}

-- rows 4 to 9: n, the record's number, the word's number
abbrev pub fault_of : Fault → Answer
fault_of (Short k) = answer 4 k 1 0
fault_of (Kind k) = answer 5 k 2 0
fault_of (Total k) = answer 6 k 1 0
fault_of (NotZero k w) = answer 7 k w 0
fault_of (Card k w) = answer 8 k w 0
fault_of (Counts k w) = answer 9 k w 0

-- a good record's words, or the refusal
abbrev pub checked_of : Result Words Fault → Verdict ℕ
checked_of = verdict_of (λ size. size.0) fault_of
