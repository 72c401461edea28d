-- The paper's numbers for each case of what is found of a block.
use Rattle.std.specs.Prelude.{ℕ, ◌≤◌, Result}
use Rattle.units.specs.declared.Answer.{Answer}
use Rattle.units.specs.Answers.{answer, Verdict, verdict_of}
use Rattle.record.specs.Cases.{fault_of}
use Rattle.block.specs.declared.Refusal.{Refusal}
use Rattle.block.specs.declared.Refusal.TheVariants.{Size, WordCount, Checksum, Record}

-- "Order for a block: 1, 2, 3, then each record: 4, 5, 6, 7, 8, 9"
abbrev pub BlockRow : ℕ → Type 0
BlockRow n = (1 ≤ n) × (n ≤ 9)

-- rows 1 to 9: which of them each refusal is
abbrev pub refusal_of : Refusal → Answer
refusal_of Size = answer 1 0 0 0
refusal_of WordCount = answer 2 0 0 0
refusal_of (Checksum bits) = answer 3 0 0 bits
refusal_of (Record f) = fault_of f

-- "Success is n = 0 with a = records (judge)"; or the refusal
abbrev pub judged_of : Result ℕ Refusal → Verdict ℕ
judged_of = verdict_of (λ count. count) refusal_of
