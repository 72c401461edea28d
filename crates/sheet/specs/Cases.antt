-- The paper's numbers for what is found of a sheet, and the numbers of an entry.
use Rattle.std.specs.Prelude.{ℕ, List, [], ◌∷◌, Result}
use Rattle.units.specs.declared.Answer.{Answer}
use Rattle.units.specs.Answers.{answer, Verdict, verdict_of}
use Rattle.sheet.specs.declared.Amendment.{Amendment}
use Rattle.sheet.specs.declared.Broken.{Broken}

-- "record number, word number in the record, old value, new value"
abbrev pub entry_of : Amendment → List ℕ
entry_of e = e.number ∷ e.word ∷ e.old ∷ e.new ∷ []

-- row 40
abbrev pub broken_of : Broken → Answer
broken_of _ = answer 40 0 0 0

-- how many amendments stand, or row 40
abbrev pub opened_of : Result ℕ Broken → Verdict ℕ
opened_of = verdict_of (λ count. count) broken_of
