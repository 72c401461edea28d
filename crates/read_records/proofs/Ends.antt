-- The end of the text.
use mathlib.Core.Path.{◌≡◌, sym, ap}
use mathlib.Core.List.{List, [], ◌∷◌}
use Prim.Native.Nat.{ℕ}
use native.Mathlib.Nat.{add-zero}
use borrow.Author.Tests.{eq-eqb, ne_eqb}
use Rattle.units.specs.Answers.{answer, passed, refused}
use Rattle.words.specs.Words.{bytes_of}
use Rattle.read_first_line.specs.FirstLine.{Shape}
use Rattle.read_line.specs.Lines.{at_end}
use Rattle.read_records.specs.Content.{stored}

module _ (num held : ℕ) (b : List ℕ) {here : List Shape} where
  pub inside : (s : Shape) (rest : List Shape) → here ≡ s ∷ rest → refused (answer 25 num 1 0) ≡ stored held b (at_end num held here)
  unfolding at_end
  inside s rest e = rw e

  pub no_record_lem : here ≡ [] → held ≡ 0 → refused (answer 21 0 0 0) ≡ stored held b (at_end num held here)
  unfolding at_end
  no_record_lem e z = rw e (simp (eq-eqb held 0 z))

  pub all_read : here ≡ [] → (held ≡ 0 → ⊥) → passed (record { held = held; block = b }) ≡ stored held b (at_end num held here)
  unfolding at_end bytes_of
  all_read e z = rw e (simp (ne_eqb held 0 z) (ap (λ n. passed (record { held = n; block = b })) (sym (add-zero held))))
