-- What holds of both ways of a choice holds of the choice.
use mathlib.Core.Path.{◌≡◌, refl}
use mathlib.Core.Bool.{Bool, true, false}
use Rattle.std.specs.Prelude.{if◌then◌else◌}

-- each way may use its side of the test
pub by_test : {A : Type 0} (P : A → Type 0) (t : Bool) (x y : A) → (t ≡ true → P x) → (t ≡ false → P y) → P (if t then x else y)
by_test P true x y h k = h refl
by_test P false x y h k = k refl

pub both_ways : {A : Type 0} (P : A → Type 0) (t : Bool) (x y : A) → P x → P y → P (if t then x else y)
both_ways P t x y h k = by_test P t x y (λ _. h) (λ _. k)
