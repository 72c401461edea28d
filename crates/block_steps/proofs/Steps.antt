-- A step to the next record, and record n, a turn at a time.
use mathlib.Core.Path.{◌≡◌, refl, sym, ap}
use mathlib.Core.Bool.{Bool, true, false, ◌||◌}
use mathlib.Core.List.{List}
use Prim.Native.Nat.{ℕ, ◌+◌, ◌-◌, ◌≤◌, ◌<◌}
use native.Mathlib.Numerals.{add-one}
use native.Mathlib.Omega.{arith}
use borrow.Author.Tests.{ltb-false, eqb-false, ne_eqb}
use lib.Dec.{ltb, eqb}
use lib.ListN.{length, get_or, get_or-eq_default}
use Rattle.std.specs.Prelude.{Option, Some, None, if◌then◌else◌}
use Rattle.units.proofs.Verdicts.{or_off}
use Rattle.block_steps.specs.declared.Place.{Place}
use Rattle.block_steps.specs.Steps.{place_of, step_of, past, find_of}

-- behind the last word stands nothing
pub step_beyond : (ws : List ℕ) (at : ℕ) → length ws ≤ at → step_of ws at ≡ None
unfolding step_of
step_beyond ws at h = simp (get_or-eq_default ws 0 {n = at} h)

-- a record that a step finds lies before the last word
pub record FoundBefore (ws : List ℕ) (at : ℕ) (p : Place) : Type 0 where
  pub here : p.at.0 ≡ at
  pub some : 1 ≤ p.size.0
  pub within : at + p.size.0 < length ws

pub step_found : (ws : List ℕ) (at : ℕ) (p : Place) → step_of ws at ≡ Some p → FoundBefore ws at p
unfolding step_of
step_found ws at p e = by (eqb (get_or ws at 0) 0 || ltb (length ws - 1 - at) (get_or ws at 0)) refl e
  where
    by : (t : Bool) → (eqb (get_or ws at 0) 0 || ltb (length ws - 1 - at) (get_or ws at 0)) ≡ t
        → (if t then None else place_of at (get_or ws at 0)) ≡ Some p → FoundBefore ws at p
    by true f g = let z : ◌≡◌ {A = ℕ} 0 1 = cc in absurd (omega arith)
    by false f g =
        let o = or_off (eqb (get_or ws at 0) 0) _ f in
        let is : ◌≡◌ {A = Place} (record { at = record { 0 = at }; size = record { 0 = get_or ws at 0 } }) p = cc in
        let here : at ≡ p.at.0 = ap (λ q. q.at.0) is in
        let k : get_or ws at 0 ≡ p.size.0 = ap (λ q. q.size.0) is in
        let some : 1 ≤ p.size.0 = omega (arith, eqb-false (get_or ws at 0) 0 o.0) in
        record { here = sym here; some = some; within = omega (arith, ltb-false (length ws - 1 - at) (get_or ws at 0) o.1) }

-- for a record that is not the first the search goes on behind that one, unless there is no more
pub find_on : (ws : List ℕ) (at i : ℕ) {j : ℕ} {p : Option Place} → i ≡ j + 1 → 1 ≤ j → step_of ws at ≡ p → find_of ws at i ≡ past p (λ next. find_of ws next j)
unfolding find_of
find_on ws at i {j} e h s = rw (e, add-one, ne_eqb j 0 (λ z. omega arith), s) refl
