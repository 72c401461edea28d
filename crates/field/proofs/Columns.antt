-- The scan of a field, column by column.
use Rattle.std.proofs.Common.{◌≡◌, ℕ, zero, suc, ◌+◌, ◌-◌, ◌*◌, ◌%◌, ◌^◌, ◌<◌, ◌≤◌, Bool, true, false, ◌&&◌, eqb, leb, List, ◌∷◌, length, get_or, take, drop, slice_range, refl, sym, ap, pow-suc, arith, drop-cons, length-drop, length-take, ne_eqb, le-leb, leb-true, Option, None}
use Rattle.std.proofs.lemmas.List.{take_all}
use lib.ListN.{get_or-eq_default, drop_of_length-le}
use Rattle.units.proofs.Verdicts.{and_on}
use Rattle.units.proofs.Choosing.{by_test, both_ways}
use Rattle.std.specs.Array.{IsFirstChunk}
use Rattle.field.specs.declared.Scan.{Scan}
use Rattle.field.specs.declared.Scan.TheVariants.{Blank, Sign, Digits, Spoiled}
use Rattle.field.specs.Reading.{with_digit, after_column, finish_of, scan_of, read_field, columns, so_far}

-- ---- one column

-- a digit, by the number that it is above 48, wrapped
module _ (minus : Bool) (m b d : ℕ) (wraps : (d + 48) % 2 ^ 32 ≡ b) (fits : d < 2 ^ 32) where
  pub some_digit : d ≤ 9 → Digits minus (m * 10 + d) ≡ with_digit minus m b
  some_digit k =
      let e : b - 48 ≡ d = omega arith in
      simp (le-leb 48 b (omega arith), le-leb b 57 (omega arith), e)

  pub no_digit : 9 < d → Spoiled ≡ with_digit minus m b
  no_digit k = by_test (λ s. Spoiled ≡ s) (leb 48 b && leb b 57) (Digits minus (m * 10 + (b - 48))) Spoiled
      (λ t. let h = and_on (leb 48 b) (leb b 57) t in absurd (omega (arith, leb-true 48 b h.0, leb-true b 57 h.1)))
      (λ _. refl)

-- while all was blank
module _ (s : Scan) (b : ℕ) (e : s ≡ Blank) where
  pub first-digit : (r : Scan) → (b ≡ 32 → ⊥) → (b ≡ 45 → ⊥) → (b ≡ 43 → ⊥) → r ≡ with_digit false 0 b → r ≡ after_column s b
  first-digit r h k l d = rw e (simp (ne_eqb b 32 h, ne_eqb b 45 k, ne_eqb b 43 l) d)

-- ---- the value stays small

digit_grows : (minus : Bool) (m b : ℕ) → so_far (with_digit minus m b) ≤ m * 10 + 9
digit_grows minus m b =
    by_test (λ s. so_far s ≤ m * 10 + 9) (leb 48 b && leb b 57) (Digits minus (m * 10 + (b - 48))) Spoiled
    (λ t. omega (arith, leb-true b 57 (and_on (leb 48 b) (leb b 57) t).1))
    (λ _. omega arith)

grows : (s : Scan) (b : ℕ) → so_far (after_column s b) ≤ so_far s * 10 + 9
grows Blank b =
    both_ways (λ s. so_far s ≤ 9) (eqb b 32) Blank _ (omega arith)
    (both_ways (λ s. so_far s ≤ 9) (eqb b 45) (Sign true) _ (omega arith)
    (both_ways (λ s. so_far s ≤ 9) (eqb b 43) (Sign false) _ (omega arith) (digit_grows false 0 b)))
grows (Sign minus) b = digit_grows minus 0 b
grows (Digits minus m) b = digit_grows minus m b
grows Spoiled b = omega arith

-- ---- the columns of a field, one after the other

-- the scan stands before column i: it goes on as the whole scan does
pub record Scanned (field : List ℕ) (i : ℕ) (s : Scan) : Type 0 where
  pub small : so_far s < 10 ^ i
  pub rest : scan_of s (drop i field) ≡ scan_of Blank field

module _ (field : List ℕ) where
  module _ (i : ℕ) (s : Scan) (p : Scanned field i s) where
    pub column-on : (t : Scan) (b : ℕ) → i < length field → b ≡ get_or field i 0 → t ≡ after_column s b → Scanned field (i + 1) t
    column-on t b h f e =
        let j : i + 1 ≡ suc i = omega arith in
        record {
          small = rw (e, j, pow-suc) (omega (arith, p.small, grows s b));
          rest = rw (e, f, j) (rw (drop-cons field i 0 h) at p.rest);
        }

    pub scan-ends : length field ≤ i → scan_of Blank field ≡ s
    scan-ends h = sym (rw (drop_of_length-le field {i = i} h) at p.rest)

-- ---- the columns of a line

pub columns_within : (n : ℕ) (line : List ℕ) (at : ℕ) → at + n ≤ length line → columns n line at ≡ take n (drop at line)
unfolding columns
columns_within zero line at h = refl
columns_within (suc n) line at h = rw (drop-cons line at 32 (omega arith)) (ap (λ l. get_or line at 32 ∷ l) (columns_within n line (suc at) (omega arith)))

-- the first six bytes from place `at` on, all scanned
pub read_whole : (line : List ℕ) (at : ℕ) (rest field : List ℕ) (s : Scan) (r : Option ℕ) (i : ℕ) →
    at ≤ length line → rest ≡ slice_range line at (length line) → IsFirstChunk rest field 6 → Scanned field i s → 6 ≤ i → r ≡ finish_of s → r ≡ read_field (columns 6 line at)
unfolding read_field
read_whole line at rest field s r i h e k p l f =
    let room : at + 6 ≤ length line = omega (arith, k.enough, ap length e, length-take (length line - at) (drop at line), length-drop at line) in
    let g : columns 6 line at ≡ field = rw (columns_within 6 line at room, ← take_all (length line - at) (drop at line) (omega (arith, length-drop at line)), ← e, ← k.same) in
    rw (g, scan-ends field i s p (omega (arith, ap length k.same, length-take 6 rest, k.enough))) f

-- ---- a field whose last column is blank is bad

blank_last : (s : Scan) → None ≡ finish_of (after_column s 32)
blank_last Blank = refl
blank_last (Sign minus) = refl
blank_last (Digits minus m) = refl
blank_last Spoiled = refl

pub cut_short : (line : List ℕ) (at : ℕ) → length line < at + 6 → None ≡ read_field (columns 6 line at)
unfolding read_field columns
cut_short line at h =
    let e : get_or line (suc (suc (suc (suc (suc at))))) 32 ≡ 32 = get_or-eq_default line 32 (omega arith) in
    rw e (blank_last (scan_of Blank (columns 5 line at)))
