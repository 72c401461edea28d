-- The digits of a number: those of its tens, if it has any, and the last.
use mathlib.Core.Path.{◌≡◌}
use mathlib.Core.List.{[], ◌∷◌, ◌++◌}
use Prim.Native.Nat.{ℕ, zero, suc, ◌/◌, ◌≤◌, ◌<◌}
use native.Mathlib.Omega.{arith}
use borrow.Author.Tests.{le-ltb, lt-ltb}
use lib.Dec.{ltb}
use lib.ListN.{length, length-append}
use Rattle.units.specs.Decimal.{digit, decimal}
use Rattle.units.proofs.Choosing.{both_ways}

pub last_one : (most n : ℕ) → n < 10 → decimal (suc most) n ≡ digit n ∷ []
unfolding decimal
last_one most n h = simp (lt-ltb n 10 h)

pub last_more : (most n : ℕ) → 10 ≤ n → decimal (suc most) n ≡ decimal most (n / 10) ++ digit n ∷ []
unfolding decimal
last_more most n h = simp (le-ltb n 10 h)

pub length-decimal : (most n : ℕ) → length (decimal most n) ≤ most
unfolding decimal
length-decimal zero n = omega arith
length-decimal (suc most) n =
    rw length-append (omega (arith, both_ways (λ l. length l ≤ most) (ltb n 10) [] (decimal most (n / 10)) (omega arith) (length-decimal most (n / 10))))
