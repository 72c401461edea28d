-- The digits of a number, by how many there are, and the digits of remainders.
use Rattle.std.proofs.Common.{◌≡◌, ℕ, suc, ◌/◌, ◌<◌, ◌≤◌, [], ◌∷◌, arith}
use Rattle.units.specs.Decimal.{digit, decimal}
use Rattle.units.proofs.Digits.{last_one, last_more}

pub two_digits : (most n : ℕ) → 10 ≤ n → n < 100 → decimal (suc (suc most)) n ≡ digit (n / 10) ∷ digit n ∷ []
two_digits most n h k = rw (last_more (suc most) n h, last_one most (n / 10) (omega arith))

pub three_digits : (most n : ℕ) → 100 ≤ n → n < 1000 → decimal (suc (suc (suc most))) n ≡ digit (n / 100) ∷ digit (n / 10) ∷ digit n ∷ []
three_digits most n h k =
    let e : n / 10 / 10 ≡ n / 100 = omega arith in
    rw (last_more (suc (suc most)) n (omega arith), two_digits most (n / 10) (omega arith) (omega arith), e)

pub four_digits : (most n : ℕ) → 1000 ≤ n → n < 10000 → decimal (suc (suc (suc (suc most)))) n ≡ digit (n / 1000) ∷ digit (n / 100) ∷ digit (n / 10) ∷ digit n ∷ []
four_digits most n h k =
    let e : n / 10 / 100 ≡ n / 1000 = omega arith in
    let f : n / 10 / 10 ≡ n / 100 = omega arith in
    rw (last_more (suc (suc (suc most))) n (omega arith), three_digits most (n / 10) (omega arith) (omega arith), e, f)

pub five_digits : (n : ℕ) → 10000 ≤ n → n < 100000 → decimal 5 n ≡ digit (n / 10000) ∷ digit (n / 1000) ∷ digit (n / 100) ∷ digit (n / 10) ∷ digit n ∷ []
five_digits n h k =
    let d : n / 10 / 1000 ≡ n / 10000 = omega arith in
    let e : n / 10 / 100 ≡ n / 1000 = omega arith in
    let f : n / 10 / 10 ≡ n / 100 = omega arith in
    rw (last_more 4 n (omega arith), four_digits 0 (n / 10) (omega arith) (omega arith), d, e, f)
