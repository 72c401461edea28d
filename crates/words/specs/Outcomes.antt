-- Document 01, "Answer numbers": what a conversion leaves behind, its answer and every byte of the lent output.
use Rattle.std.specs.Prelude.{ℕ, List, ◌++◌, ltb, length, drop}
use Rattle.std.specs.Prelude.{if◌then◌else◌}
use Rattle.units.specs.declared.Answer.{Answer}
use Rattle.units.specs.Answers.{answer, Verdict, passed, refused}

-- the four numbers, and the output afterwards
pub record Written : Type 0 where
  pub answer : Answer
  pub out : List ℕ

-- an answer and the output as it is then
abbrev pub leaves : Answer → List ℕ → Written
leaves r out = record { answer = r; out = out }

-- "Success is n = 0 with a = ... bytes written (conversions)"; "output shorter than needed: a = bytes needed", which is row `short`; "Bytes of an output past those written stay"
unfoldable pub written : ℕ → List ℕ → Verdict (List ℕ) → Written
written short out (refused r) = leaves r out
written short out (passed bytes) =
    if ltb (length out) (length bytes) then leaves (answer short (length bytes) 0 0) out
    else leaves (answer 0 (length bytes) 0 0) (bytes ++ drop (length bytes) out)
