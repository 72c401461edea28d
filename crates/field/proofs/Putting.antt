-- The six columns of a field, by how many digits there are.
use Rattle.std.proofs.Common.{◌≡◌, ℕ, zero, suc, ◌+◌, ◌-◌, ◌*◌, ◌/◌, ◌%◌, ◌^◌, ◌<◌, ◌≤◌, List, [], ◌∷◌, ◌++◌, length, refl, sym, ap, ◌∙◌, append_assoc, arith, le-ltb, lt-ltb}
use lib.Seq.{sets, sets-eq, drop-drop}
use borrow.Rule.Slice.PartMut.{put_mid}
use Rattle.units.specs.Decimal.{digit, decimal}
use Rattle.units.proofs.Digits.{length-decimal, last_one}
use Rattle.field.specs.Writing.{blanks, field_of}
use Rattle.field.specs.Putting.{packed, four_bytes, four_of, six_of}
use Rattle.field.proofs.Digits.{two_digits, three_digits, four_digits, five_digits}

-- ---- six columns of a line

-- what a part of a line holds afterwards stands there in the whole
pub placed : (line : List ℕ) (at k : ℕ) (part text : List ℕ) → part ≡ text → length text ≡ 6 → k ≡ 6 → at + 6 ≤ length line → put_mid at k line part ≡ sets line at text
placed line at k part text e f g h =
    let i : k ≡ length text = omega arith in
    sym (rw (sets-eq text line at (omega arith), e, i, drop-drop, append_assoc))

-- ---- a word's sign

-- a blank behind the others is one more before them
pub blank_more : (k : ℕ) (l : List ℕ) → blanks k ++ (32 ∷ l) ≡ blanks (suc k) ++ l
blank_more zero l = refl
blank_more (suc k) l = ap (λ r. 32 ∷ r) (blank_more k l)

pub plain : {w : ℕ} → w < 32768 → six_of 32 w ≡ field_of w
unfolding six_of field_of
plain {w} h =
    let e : 6 - length (decimal 5 w) ≡ suc (5 - length (decimal 5 w)) = omega (arith, length-decimal 5 w) in
    simp (lt-ltb w 32768 h) (rw (e, blank_more))

pub with_minus : (w m : ℕ) → 32768 ≤ w → m + w ≡ 2 ^ 16 → six_of 45 m ≡ field_of w
unfolding six_of field_of
with_minus w m h e =
    let f : 65536 - w ≡ m = omega arith in
    let g : 5 - length (decimal 5 m) ≡ 6 - suc (length (decimal 5 m)) = omega arith in
    simp (le-ltb w 32768 h) (rw (f, g))

-- ---- a number's bytes

module _ (a b c d : ℕ) (ha : a < 256) (hb : b < 256) (hc : c < 256) where
  four_bytes_lem : four_bytes (packed a b c d) ≡ a ∷ b ∷ c ∷ d ∷ []
  four_bytes_lem =
      let x : ℕ = packed a b c d in
      let e : x % 256 ≡ a = omega arith in
      let f : x / 256 ≡ b + (c + d * 256) * 256 = omega arith in
      let g : x / 65536 ≡ c + d * 256 = omega arith in
      let h : x / 16777216 ≡ d = omega arith in
      let i : (b + (c + d * 256) * 256) % 256 ≡ b = omega arith in
      let j : (c + d * 256) % 256 ≡ c = omega arith in
      rw (e, f, g, h, i, j)

-- ---- the columns that the code puts

module _ (lead n : ℕ) where
  pub two : lead < 256 → 10 ≤ n → n < 100 → 32 ∷ 32 ∷ four_bytes (0x3030_0020 + lead * 256 + (n / 10 + n % 10 * 256) * 65536) ≡ six_of lead n
  unfolding six_of
  two b h k =
      let e : 0x3030_0020 + lead * 256 + (n / 10 + n % 10 * 256) * 65536 ≡ packed 32 lead (digit (n / 10)) (digit n) = omega arith in
      rw (e, four_bytes_lem 32 lead (digit (n / 10)) (digit n) (omega arith) b (omega arith), two_digits 3 n h k)

  pub three : (x : ℕ) → lead < 256 → 100 ≤ n → n < 1000 → x ≡ four_of n → 32 ∷ 32 ∷ four_bytes (x - 48 + lead) ≡ six_of lead n
  unfolding six_of
  three x b h k e =
      let f : x - 48 + lead ≡ packed lead (digit (n / 100)) (digit (n / 10)) (digit n) = omega arith in
      rw (f, four_bytes_lem lead (digit (n / 100)) (digit (n / 10)) (digit n) b (omega arith) (omega arith), three_digits 2 n h k)

  module _ (out after : List ℕ) (at : ℕ) where
    pub one : (d : ℕ) → n < 10 → d ≡ digit n → after ≡ sets out at (32 ∷ 32 ∷ 32 ∷ 32 ∷ lead ∷ d ∷ []) → after ≡ sets out at (six_of lead n)
    unfolding six_of
    one d h e p = rw (last_one 4 n h, ← e) p

    module _ (w x : ℕ) (field : six_of lead n ≡ field_of w) (e : x ≡ four_of n) where
      all-four : four_bytes x ≡ digit (n / 1000) ∷ digit (n / 100) ∷ digit (n / 10) ∷ digit n ∷ []
      all-four = rw (e, four_bytes_lem (digit (n / 1000)) (digit (n / 100)) (digit (n / 10)) (digit n) (omega arith) (omega arith) (omega arith))

      pub four : 1000 ≤ n → n < 10000 → after ≡ sets out at (32 ∷ lead ∷ four_bytes x) → after ≡ sets out at (field_of w)
      unfolding six_of
      four h k p = p ∙ ap (λ l. sets out at (32 ∷ lead ∷ l)) all-four ∙ rw (← field, four_digits 1 n h k)

      pub five : (d : ℕ) → 10000 ≤ n → n < 2 ^ 16 → d ≡ digit (n / 10000) → after ≡ sets out at (lead ∷ d ∷ four_bytes x) → after ≡ sets out at (field_of w)
      unfolding six_of
      five d h k e p = p ∙ ap (λ l. sets out at (lead ∷ d ∷ l)) all-four ∙ rw (← field, five_digits n h (omega arith), e)
