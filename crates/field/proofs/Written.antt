-- A written field is six columns, each a blank, a minus or a digit, and a field of its word.
use Rattle.std.proofs.Common.{◌≡◌, ℕ, zero, suc, ◌+◌, ◌-◌, ◌*◌, ◌/◌, ◌%◌, ◌^◌, ◌<◌, ◌≤◌, Bool, true, false, ltb, List, [], ◌∷◌, ◌++◌, length, refl, append_assoc, pow-suc, arith, length-append, ltb-false, ltb-true}
use lib.ListN.{length-replicate}
use Rattle.std.specs.Prelude.{if◌then◌else◌}
use Rattle.words.specs.Words.{All}
use Rattle.words.proofs.Lists.{all_append, all_replicate}
use Rattle.field.specs.Writing.{magnitude_of, sign_of, blanks, field_of, FieldByte, blank, minus, figure}
use Rattle.field.specs.Grammar.{no_sign, minus_sign, IsDigits, a_digit, and_a_digit, in_order, not_negative, negative, IsField}
use Rattle.units.specs.Decimal.{digit, decimal}
use Rattle.units.proofs.Choosing.{by_test, both_ways}
use Rattle.units.proofs.Digits.{length-decimal, last_one}

module _ (w : ℕ) where
  abbrev number : List ℕ
  number = sign_of w ++ decimal 5 (magnitude_of w)

  length-number : length number ≤ 6
  length-number = rw length-append (omega (arith, both_ways (λ (l : List ℕ). length l ≤ 1) (ltb w 32768) [] (45 ∷ []) (omega arith) (omega arith), length-decimal 5 (magnitude_of w)))

  pub length_field_of : length (field_of w) ≡ 6
  unfolding field_of
  length_field_of = rw (length-append (blanks (6 - length number)) number, length-replicate) (omega (arith, length-number))

bytes_decimal : (most n : ℕ) → All FieldByte (decimal most n)
unfolding decimal
bytes_decimal zero n = tt
bytes_decimal (suc most) n =
    let front : List ℕ = if ltb n 10 then [] else decimal most (n / 10) in
    all_append FieldByte front (digit n ∷ []) (both_ways (All FieldByte) (ltb n 10) [] (decimal most (n / 10)) tt (bytes_decimal most (n / 10))) (figure n, tt)

pub bytes_field_of : (w : ℕ) → All FieldByte (field_of w)
unfolding field_of
bytes_field_of w =
    all_append FieldByte (blanks (6 - length (number w))) (number w)
    (all_replicate FieldByte (6 - length (number w)) 32 blank)
    (all_append FieldByte (sign_of w) (decimal 5 (magnitude_of w))
    (both_ways (All FieldByte) (ltb w 32768) [] (45 ∷ []) tt (minus, tt))
    (bytes_decimal 5 (magnitude_of w)))

-- ---- by the grammar

one_figure : (n : ℕ) → n < 10 → IsDigits (digit n ∷ []) n
one_figure n h = let e : n % 10 ≡ n = omega arith in rw e (a_digit h)

decimal_digits : (most n : ℕ) → n < 10 ^ suc most → IsDigits (decimal (suc most) n) n
unfolding decimal
decimal_digits zero n h = rw (last_one zero n h) (one_figure n h)
decimal_digits (suc most) n h =
    by_test (λ l. IsDigits (l ++ digit n ∷ []) n) (ltb n 10) [] (decimal (suc most) (n / 10))
    (λ t. one_figure n (ltb-true n 10 t))
    (λ t. let e : n / 10 * 10 + n % 10 ≡ n = omega arith in
    rw e at (and_a_digit {d = n % 10} (decimal_digits most (n / 10) (omega (arith, pow-suc 10 (suc most)))) (omega arith)))

pub written_field : (w : ℕ) → w < 65536 → IsField (field_of w) w
unfolding field_of
written_field w h = by (ltb w 32768) refl
  where
    by : (t : Bool) → ltb w 32768 ≡ t → IsField (field_of w) w
    by true t =
        let k : w ≤ 32767 = omega (arith, ltb-true w 32768 t) in
        let form = in_order (6 - length (decimal 5 w)) no_sign (decimal_digits 4 w (omega arith)) in
        simp t (record { minus = false; number = w; form = rw append_assoc at form; value = not_negative k })
    by false t =
        let k : 32768 ≤ w = ltb-false w 32768 t in
        let m : ℕ = 65536 - w in
        let e : 65536 - m ≡ w = omega arith in
        let form = in_order (6 - length (45 ∷ decimal 5 m)) minus_sign (decimal_digits 4 m (omega arith)) in
        let value = negative {m = m} (omega arith) (omega arith) in
        simp t (record { minus = true; number = m; form = rw append_assoc at form; value = rw e at value })
