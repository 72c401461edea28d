-- What is found of a whole text, on the way through its lines.
use Rattle.std.specs.Prelude.{ℕ, ◌+◌, ◌≡◌, Result, List, length}
use Rattle.units.specs.declared.Words.{Words}
use Rattle.units.specs.Answers.{Verdict, passed, onward, verdict_of}
use Rattle.read_columns.specs.declared.Flaw.{Flaw}
use Rattle.read_columns.specs.Cases.{flaw_of}
use Rattle.read_first_line.specs.FirstLine.{Shape}
use Rattle.read_line.specs.Lines.{at_end}
use Rattle.read_first_line.specs.State.{put}

-- the record words of a text, and the block as it is then
pub record Stored : Type 0 where
  pub held : ℕ
  pub block : List ℕ

-- after the lines that give these words
abbrev pub stored : ℕ → List ℕ → Verdict (List ℕ) → Verdict Stored
stored held block v = onward v (λ ws. passed (record { held = held + length ws; block = put held block ws }))

-- what is found, and the block as it is then
abbrev pub stored_of : List ℕ → Result Words Flaw → Verdict Stored
stored_of block = verdict_of (λ n. record { held = n.0; block = block }) flaw_of

-- what is told at the end of the text, whatever block was written
abbrev pub Ended : ℕ → ℕ → List Shape → Result Words Flaw → Type 0
Ended num held rest r = (b : List ℕ) → stored_of b r ≡ stored held b (at_end num held rest)
