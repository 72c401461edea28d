-- Stores that a later run of stores covers, and stores behind a front.
use mathlib.Core.Path.{◌≡◌, refl, sym, ap, ◌∙◌}
use mathlib.Core.Bool.{Bool, true, false}
use mathlib.Core.List.{List, [], ◌∷◌}
use Prim.Native.Nat.{ℕ, suc, ◌+◌, ◌≤◌, ◌<◌}
use native.Mathlib.Nat.{add-suc}
use native.Mathlib.Omega.{arith}
use borrow.Author.Tests.{eqb-true, eqb-false}
use lib.Dec.{eqb}
use lib.ListN.{length, drop, set}
use lib.Seq.{sets, set-set, set_comm, drop-set-add}

module _ {A : Type 0} where
  set_over : (l : List A) (i s : ℕ) (x : A) (vs : List A) → s ≤ i → i < s + length vs → sets (set l i x) s vs ≡ sets l s vs
  set_over l i s x [] h k = absurd (omega arith)
  set_over l i s x (v ∷ vs) h k = by (eqb i s) refl (λ ne. set_over (set l s v) i (suc s) x vs (omega (arith, ne)) (omega arith))
    where
      by : (t : Bool) → eqb i s ≡ t → ((i ≡ s → ⊥) → sets (set (set l s v) i x) (suc s) vs ≡ sets (set l s v) (suc s) vs)
          → sets (set (set l i x) s v) (suc s) vs ≡ sets (set l s v) (suc s) vs
      by true e on = ap (λ l. sets l (suc s) vs) (ap (λ j. set (set l j x) s v) (eqb-true i s e) ∙ set-set l s x v)
      by false e on = let ne = eqb-false i s e in ap (λ l. sets l (suc s) vs) (set_comm l i s x v ne) ∙ on ne

  -- stores that are covered are as good as not made
  pub sets_over : (l : List A) (i s : ℕ) (xs vs : List A) → s ≤ i → i + length xs ≤ s + length vs → sets (sets l i xs) s vs ≡ sets l s vs
  sets_over l i s [] vs h k = refl
  sets_over l i s (x ∷ xs) vs h k = sets_over (set l i x) (suc i) s xs vs (omega arith) (omega arith) ∙ set_over l i s x vs h (omega arith)

  -- behind a front that is left out, stores are stores into the rest
  pub drop-sets-add : (n : ℕ) (l : List A) (i : ℕ) (vs : List A) → drop n (sets l (n + i) vs) ≡ sets (drop n l) i vs
  drop-sets-add n l i [] = refl
  drop-sets-add n l i (v ∷ vs) =
      let e : suc (n + i) ≡ n + suc i = sym (add-suc n i) in
      rw e (drop-sets-add n (set l (n + i) v) (suc i) vs ∙ ap (λ l. sets l (suc i) vs) (drop-set-add n l i v))
