-- A packed answer can be taken apart again, and has room for its numbers.
use mathlib.Core.Path.{◌≡◌, refl}
use Prim.Native.Nat.{ℕ, ◌/◌, ◌%◌, ◌^◌, ◌<◌}
use native.Mathlib.Omega.{arith}
use Rattle.std.specs.Prelude.{Result, Ok, Err}
use Rattle.units.specs.declared.Answer.{Answer}
use Rattle.units.specs.declared.Bytes.{Bytes}
use Rattle.units.specs.declared.Unwritten.{Unwritten}
use Rattle.units.specs.declared.Unwritten.TheVariants.{Refused, Short}
use Rattle.units.specs.Answers.{answered, packed_of, fitted, taken_apart, Packs, verdict_of, written_of}

pub taken_apart_lem : (r : Answer) → Packs r → taken_apart (packed_of r) ≡ r
taken_apart_lem r h =
    let n : packed_of r / 2 ^ 56 ≡ r.n = omega arith in
    let a : packed_of r / 2 ^ 32 % 2 ^ 24 ≡ r.a = omega arith in
    let b : packed_of r / 2 ^ 16 % 2 ^ 16 ≡ r.b = omega arith in
    let c : packed_of r % 2 ^ 16 ≡ r.c = omega arith in
    rw (n, a, b, c)

-- where all have room, nothing is lost
pub fitted_is : (r : Answer) → r.a < 2 ^ 24 → r.b < 2 ^ 16 → fitted r ≡ r
fitted_is r h k =
    let a : r.a % 2 ^ 24 ≡ r.a = omega arith in
    let b : r.b % 2 ^ 16 ≡ r.b = omega arith in
    rw (a, b)

fitted-fitted : (r : Answer) → fitted (fitted r) ≡ fitted r
fitted-fitted r = fitted_is (fitted r) (omega arith) (omega arith)

-- numbers of refusals that are fitted each for itself are fitted with the answer
pub fitted_found : {E : Type 0} (numbers : E → Answer) (r : Result Bytes E)
    → fitted (answered (verdict_of (λ size. size.0) (λ e. fitted (numbers e)) r)) ≡ fitted (answered (verdict_of (λ size. size.0) numbers r))
fitted_found numbers (Ok size) = refl
fitted_found numbers (Err e) = fitted-fitted (numbers e)

pub fitted_written : {R : Type 0} (short : ℕ) (numbers : R → Answer) (r : Result Bytes (Unwritten R))
    → fitted (written_of short (λ e. fitted (numbers e)) r) ≡ fitted (written_of short numbers r)
fitted_written short numbers (Ok size) = refl
fitted_written short numbers (Err (Refused r)) = fitted-fitted (numbers r)
fitted_written short numbers (Err (Short size)) = refl
