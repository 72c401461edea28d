-- How many lines a plan has, and how many fields stand on them.
use mathlib.Core.Path.{◌≡◌, refl, ◌∙◌}
use mathlib.Core.Bool.{Bool, true, false}
use mathlib.Core.List.{List, [], ◌∷◌, ◌++◌}
use Prim.Native.Nat.{ℕ, zero, suc, ◌+◌, ◌-◌, ◌*◌, ◌/◌, ◌%◌, ◌<◌, min}
use native.Mathlib.Nat.{suc-mul, mul_comm}
use native.Mathlib.Omega.{arith}
use borrow.Author.Tests.{ltb-true, ltb-false}
use lib.Dec.{ltb}
use lib.ListN.{length, replicate, length-append, length-replicate}
use Rattle.units.specs.Units.{lines_of_fields}
use Rattle.counts.specs.declared.Counts.{Counts}
use Rattle.counts.specs.Counts.{words_needed, lines_needed}
use Rattle.line_plan.specs.Plan.{shorter, part, times, plan}

-- the first line of a part, and the others
pub part_turn : (n : ℕ) → 0 < n → part n ≡ min n 20 ∷ part (n - min n 20)
unfolding part
part_turn n h = by (ltb n 20) refl
  where
    few : (m : ℕ) → suc m < 20 → replicate (suc m / 20) 20 ++ shorter (suc m % 20) ≡ suc m ∷ []
    few m k =
        let q : suc m / 20 ≡ 0 = omega arith in
        let r : suc m % 20 ≡ suc m = omega arith in
        rw (q, r) refl

    by : (t : Bool) → ltb n 20 ≡ t → replicate (n / 20) 20 ++ shorter (n % 20) ≡ min n 20 ∷ (replicate ((n - min n 20) / 20) 20 ++ shorter ((n - min n 20) % 20))
    by true e =
        let l = ltb-true n 20 e in
        let s : n ≡ suc (n - 1) = omega arith in
        let a : min n 20 ≡ n = omega arith in
        let q : (n - n) / 20 ≡ 0 = omega arith in
        let r : (n - n) % 20 ≡ 0 = omega arith in
        rw (a, q, r) (rw s (few (n - 1) (omega arith)))
    by false e =
        let l = ltb-false n 20 e in
        let a : min n 20 ≡ 20 = omega arith in
        let q : n / 20 ≡ suc ((n - 20) / 20) = omega arith in
        let r : n % 20 ≡ (n - 20) % 20 = omega arith in
        rw (a, q, r) refl

-- how many fields stand on lines
unfoldable pub fields_in : List ℕ → ℕ
fields_in [] = 0
fields_in (n ∷ ns) = n + fields_in ns

fields_in-append : (ns ms : List ℕ) → fields_in (ns ++ ms) ≡ fields_in ns + fields_in ms
unfolding fields_in
fields_in-append [] ms = omega arith
fields_in-append (n ∷ ns) ms = omega (arith, fields_in-append ns ms)

pub fields_in-part : (n : ℕ) → fields_in (part n) ≡ n
unfolding fields_in part
fields_in-part n = fields_in-append (replicate (n / 20) 20) (shorter (n % 20)) ∙ omega (arith, full (n / 20), rest (n % 20))
  where
    full : (k : ℕ) → fields_in (replicate k 20) ≡ 20 * k
    full zero = refl
    full (suc k) = omega (arith, full k)

    rest : (k : ℕ) → fields_in (shorter k) ≡ k
    rest zero = refl
    rest (suc k) = omega arith

length_part : (n : ℕ) → length (part n) ≡ lines_of_fields n
unfolding part
length_part n = length-append (full (n / 20)) (shorter (n % 20)) ∙ by (n % 20) refl
  where
    full : ℕ → List ℕ
    full k = replicate k 20

    by : (r : ℕ) → n % 20 ≡ r → length (full (n / 20)) + length (shorter r) ≡ (n + 19) / 20
    by zero e = omega (arith, length-replicate {A = ℕ} (n / 20) 20)
    by (suc r) e = omega (arith, length-replicate {A = ℕ} (n / 20) 20)

-- any count that adds up over lines, and is known of a part, over a plan
module _ (count : List ℕ → ℕ) (each : ℕ → ℕ) (none : count [] ≡ 0) (adds : (ns ms : List ℕ) → count (ns ++ ms) ≡ count ns + count ms) (of_part : (n : ℕ) → count (part n) ≡ each n) where
  over_times : (k n : ℕ) → count (times k (part n)) ≡ k * each n
  unfolding times
  over_times zero n = omega (arith, none)
  over_times (suc k) n = omega (arith, adds (part n) (times k (part n)), of_part n, over_times k n, suc-mul k (each n))

  over_plan : (c : Counts) → count (plan c) ≡ each c.lprol + 2 * each c.jpar + each c.mpar * (c.nrow + 1)
  unfolding plan
  over_plan c =
      let singles = times 2 (part c.jpar) in
      let rows = times (c.nrow + 1) (part c.mpar) in
      omega (
        arith,
        adds (part c.lprol) (singles ++ rows),
        adds singles rows,
        of_part c.lprol,
        over_times 2 c.jpar,
        over_times (c.nrow + 1) c.mpar,
        mul_comm (c.nrow + 1) (each c.mpar),
      )

pub fields_in-times : (k n : ℕ) → fields_in (times k (part n)) ≡ k * n
unfolding fields_in
fields_in-times = over_times fields_in (λ n. n) refl fields_in-append fields_in-part

pub length-plan : (c : Counts) → length (plan c) ≡ lines_needed c
length-plan = over_plan length lines_of_fields refl length-append length_part

pub fields_in-plan : (c : Counts) → fields_in (plan c) ≡ words_needed c
unfolding fields_in
fields_in-plan = over_plan fields_in (λ n. n) refl fields_in-append fields_in-part
