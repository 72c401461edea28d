-- The paper's numbers for each case of what becomes of a text.
use Rattle.std.specs.Prelude.{ℕ, ◌≤◌, Result}
use Rattle.units.specs.declared.Answer.{Answer}
use Rattle.units.specs.declared.Bytes.{Bytes}
use Rattle.units.specs.declared.Unwritten.{Unwritten}
use Rattle.units.specs.Answers.{Verdict, verdict_of, written_of}
use Rattle.read_columns.specs.declared.Flaw.{Flaw}
use Rattle.read_columns.specs.Cases.{flaw_of}

-- "writing gives all of them in 01's order": rows 20 to 30
abbrev pub WriteRow : ℕ → Type 0
WriteRow n = (20 ≤ n) × (n ≤ 30)

-- "the block's size in bytes", or the text's refusal
abbrev pub judged_of : Result Bytes Flaw → Verdict ℕ
judged_of = verdict_of (λ size. size.0) flaw_of

-- the bytes written; the text's refusal; row 29 with the bytes needed
abbrev pub built_of : Result Bytes (Unwritten Flaw) → Answer
built_of = written_of 29 flaw_of
