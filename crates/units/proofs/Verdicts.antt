-- Tests and verdicts: what a refusal that was not given tells.
use mathlib.Core.Path.{◌≡◌, refl}
use mathlib.Core.Bool.{Bool, true, false, ◌||◌, ◌&&◌, and-eq-true_iff}
use mathlib.Mathlib.Data.Bool.Basic.{or-eq-false-eq-eq-false-and-eq-false}
use Prim.Native.Nat.{ℕ}
use native.Mathlib.Omega.{arith}
use Rattle.units.specs.declared.Answer.{Answer}
use Rattle.std.specs.Prelude.{if◌then◌else◌}
use Rattle.units.specs.Answers.{Verdict, passed, refused, onward}

module _ {A : Type 0} where
  pub never_passed : {r : Answer} {x : A} → refused r ≡ passed x → ⊥
  never_passed e = let z : ◌≡◌ {A = ℕ} 0 1 = cc in omega arith

  -- the test failed, and what stands after it passed
  pub else_passed : (t : Bool) (r : Answer) (v : Verdict A) (x : A) → (if t then refused r else v) ≡ passed x → (t ≡ false) × (v ≡ passed x)
  else_passed true r v x e = absurd (never_passed e)
  else_passed false r v x e = (refl, e)

-- what passes was passed on first
pub onward_passed : {A B : Type 0} (v : Verdict A) (f : A → Verdict B) (y : B) → onward v f ≡ passed y → (x : A) × (v ≡ passed x) × (f x ≡ passed y)
onward_passed (passed x) f y e = (x, refl, e)
onward_passed (refused r) f y e = absurd (never_passed e)

-- passed on as it is, it is the same
pub onward_same : {A : Type 0} (v : Verdict A) → v ≡ onward v (λ x. passed x)
onward_same (passed x) = refl
onward_same (refused r) = refl

pub or_off : (s t : Bool) → (s || t) ≡ false → (s ≡ false) × (t ≡ false)
or_off s t e = (or-eq-false-eq-eq-false-and-eq-false s t).0 e

pub and_on : (s t : Bool) → (s && t) ≡ true → (s ≡ true) × (t ≡ true)
and_on s t e = (and-eq-true_iff s t).0 e

-- what follows from each of two tests
pub either_on : {P : Type 0} (s t : Bool) → (s ≡ true → P) → (t ≡ true → P) → (s || t) ≡ true → P
either_on true t h k e = h refl
either_on false t h k e = k e
