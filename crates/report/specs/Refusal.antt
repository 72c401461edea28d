-- Document 01, "Examples": the line that says a refusal.
use Rattle.std.specs.Prelude.{ℕ, List, [], ◌∷◌}
use Rattle.units.specs.declared.Answer.{Answer}
use Rattle.units.specs.Answers.{Verdict, passed, refused}
use Rattle.report.specs.Text.{text, line_of}
use Rattle.report.specs.Decimal.{decimal_of}

-- "For a refusal it prints only one line, "refused" and the four numbers, spaced and ended in the same way"
unfoldable pub refusal_line : Answer → List ℕ
refusal_line r = line_of (text "refused" ∷ decimal_of r.n ∷ decimal_of r.a ∷ decimal_of r.b ∷ decimal_of r.c ∷ [])

-- its bytes, at most
abbrev pub longest_refusal : ℕ
longest_refusal = 52

-- "For a refusal it prints only one line": what a program makes of what passed, or that line
abbrev pub or_refusal : {A : Type 0} → (A → List ℕ) → Verdict A → List ℕ
or_refusal f (passed x) = f x
or_refusal f (refused r) = refusal_line r
