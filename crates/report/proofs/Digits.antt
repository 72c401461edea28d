-- A number's digits are those of its tens and the last; and how many there are.
use mathlib.Core.Path.{◌≡◌, ap}
use mathlib.Core.Bool.{Bool, true, false}
use mathlib.Core.List.{[], ◌∷◌, ◌++◌}
use Prim.Native.Nat.{ℕ, zero, suc, ◌+◌, ◌/◌, ◌%◌, ◌^◌, ◌≤◌, ◌<◌}
use native.Mathlib.Nat.{pow-suc}
use native.Mathlib.Omega.{arith}
use borrow.Author.Tests.{lt-ltb, le-ltb}
use lib.Dec.{ltb}
use lib.ListN.{length, length-append}
use Rattle.std.specs.Prelude.{if◌then◌else◌}
use Rattle.report.specs.Decimal.{decimal_of}
use Rattle.units.specs.Decimal.{decimal}
use Rattle.units.proofs.Digits.{length-decimal}

-- a power of ten more is a digit more
tens_below : (k n : ℕ) → n < 10 ^ suc k → n / 10 < 10 ^ k
tens_below k n h = omega (arith, pow-suc 10 k)

-- where k digits are enough, one more changes nothing
enough : (k n : ℕ) → n < 10 ^ suc k → decimal (suc k) n ≡ decimal (suc (suc k)) n
unfolding decimal
enough zero n h = simp (lt-ltb n 10 (omega arith))
enough (suc k) n h = ap (λ l. (if ltb n 10 then [] else l) ++ ((48 + n % 10) ∷ [])) (enough k (n / 10) (tens_below (suc k) n h))

pub one_digit : (n : ℕ) → n < 10 → decimal_of n ≡ (48 + n) ∷ []
unfolding decimal_of decimal
one_digit n h = let e : n % 10 ≡ n = omega arith in simp (lt-ltb n 10 h, e)

pub more_digits : (n : ℕ) → 10 ≤ n → n < 2 ^ 32 → decimal_of n ≡ decimal_of (n / 10) ++ ((48 + n % 10) ∷ [])
unfolding decimal_of decimal
more_digits n h b = simp (le-ltb n 10 h) (ap (λ l. l ++ ((48 + n % 10) ∷ [])) (enough 8 (n / 10) (omega arith)))

digits_below : (m k n : ℕ) → n < 10 ^ suc k → length (decimal m n) ≤ suc k
unfolding decimal
digits_below zero k n h = omega arith
digits_below (suc m) zero n h = simp (lt-ltb n 10 (omega arith)) (omega arith)
digits_below (suc m) (suc k) n h = by (ltb n 10) (digits_below m k (n / 10) (tens_below (suc k) n h))
  where
    by : (t : Bool) → length (decimal m (n / 10)) ≤ suc k → length ((if t then [] else decimal m (n / 10)) ++ ((48 + n % 10) ∷ [])) ≤ suc (suc k)
    by true h = omega arith
    by false h = omega (arith, length-append (decimal m (n / 10)) ((48 + n % 10) ∷ []))

-- no number has more than ten digits
pub most_digits : (n : ℕ) → length (decimal_of n) ≤ 10
unfolding decimal_of
most_digits n = length-decimal 10 n

-- a number below a power of ten has no more digits than that
pub few_digits : (k n : ℕ) → n < 10 ^ suc k → length (decimal_of n) ≤ suc k
unfolding decimal_of
few_digits k n h = digits_below 10 k n h
