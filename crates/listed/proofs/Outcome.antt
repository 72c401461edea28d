-- What a listing prints, by what is found of the block.
use mathlib.Core.Path.{◌≡◌, sym, ap, ◌∙◌}
use mathlib.Core.List.{List}
use Prim.Native.Nat.{ℕ}
use Rattle.std.specs.Prelude.{Result, Ok, Err}
use Rattle.units.specs.declared.Answer.{Answer}
use Rattle.words.specs.Writing.{Room}
use Rattle.block.specs.Judging.{judged, Accepted}
use Rattle.block.specs.Cases.{judged_of, refusal_of}
use Rattle.block.specs.declared.Refusal.{Refusal}
use Rattle.block.proofs.Known.{accepted_by}
use Rattle.report.specs.Refusal.{refusal_line, or_refusal}
use Rattle.printed.proofs.Outcome.{Prints, prints_passed, prints_refused}

-- of a block: a text for all its records, or the line of its refusal
module _ (text b : List ℕ) {out : List ℕ} {j : Result ℕ Refusal} (h : Room out 0 (or_refusal (λ _. text) (judged b))) (e : judged_of j ≡ judged b) where
  pub accepted_prints : {k : ℕ} → j ≡ Ok k → Accepted b × Prints out (or_refusal (λ _. text) (judged b)) text
  accepted_prints is = let a = accepted_by b e is in (a, prints_passed (λ _. text) h a.is)

  pub refused_prints : {r : Refusal} {s : Answer} → j ≡ Err r → s ≡ refusal_of r → Prints out (or_refusal (λ _. text) (judged b)) (refusal_line s)
  refused_prints is says = prints_refused (λ _. text) h (sym e ∙ ap judged_of is) says
