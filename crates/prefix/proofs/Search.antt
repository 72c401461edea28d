-- What a search of a table whose codes rise finds.
use mathlib.Core.Path.{◌≡◌, refl, sym, ap, subst}
use mathlib.Core.Bool.{Bool, true, false}
use mathlib.Core.List.{List, [], ◌∷◌}
use Prim.Native.Nat.{ℕ, zero, suc, ◌≤◌, ◌<◌}
use native.Mathlib.Omega.{arith}
use native.Mathlib.Nat.{eq-or-lt_of_le}
use mathlib.Core.Logic.{⊎_elim}
use borrow.Author.Tests.{eq-eqb, ne_eqb, ltb-true, ltb-false, lt-ltb, le-ltb}
use lib.Dec.{eqb, ltb}
use lib.ListN.{length, length-map, get_or, get_or-map}
use Rattle.std.specs.Prelude.{if◌then◌else◌, Some, None, Result, Ok, Err}
use Rattle.std.specs.Result.{MatchResult, result_ok}
use Rattle.std.specs.Ordering.{nat_cmp, ordering_index}
use Rattle.std.specs.List.Sorted.{IsBinarySearchResult}
use Rattle.std.proofs.lemmas.List.Sorted.{searched}
use Rattle.prefix.specs.Rising.{rises}
use Rattle.prefix.specs.LookUp.{beside, place_in, codes_of, values_of, row_of}
use Rattle.prefix.proofs.Rising.{rising}

-- a place is the code's where the code stands there, or the list ends there, and the code stands at none before it
place_is : (codes : List ℕ) (code at : ℕ) → at ≤ length codes → (at < length codes → get_or codes at 0 ≡ code) → ((k : ℕ) → k < at → get_or codes k 0 ≡ code → ⊥) → at ≡ place_in codes code
unfolding place_in
place_is [] code at h e before = omega arith
place_is (c ∷ codes) code zero h e before = rw (eq-eqb c code (e (omega arith)))
place_is (c ∷ codes) code (suc at) h e before =
    rw (ne_eqb c code (before 0 (omega arith)))
    (ap suc (place_is codes code at (omega arith) (λ l. e (omega arith)) (λ k l. before (suc k) (omega arith))))

-- what a search of rows by their codes says of the codes
pub search_codes : {A : Type 0} (rows : List (ℕ × A)) (other : A) (code : ℕ) (r : Result ℕ ℕ) → IsBinarySearchResult (λ row. nat_cmp row.0 code) rows r → IsBinarySearchResult (λ c. nat_cmp c code) (codes_of rows) r
search_codes {A} rows other code (Ok i) h = λ d. rw (get_or-map {A = ℕ × A} (λ row. row.0) rows i (d, other)) (h (d, other))
search_codes {A} rows other code (Err i) h = λ up.
    let one : (k : ℕ) (d : ℕ × A) → get_or (codes_of rows) k d.0 ≡ (get_or rows k d).0 = λ k d. get_or-map {A = ℕ × A} (λ row. row.0) rows k d in
    let rank : ℕ → ℕ = λ c. ordering_index (nat_cmp c code) in
    let parted = h (λ j k d le lt. subst (λ (p : ℕ). rank p ≤ rank (get_or rows k d).0) (one j d) (subst (λ (q : ℕ). rank (get_or (codes_of rows) j d.0) ≤ rank q) (one k d) (up j k d.0 le (omega (arith, length-map rows (λ row. row.0)))))) in (
      λ k d low high. rw (one k (d, other)) (parted.0 k (d, other) low high),
      λ k d low high. rw (one k (d, other)) (parted.1 k (d, other) low (omega (arith, length-map rows (λ row. row.0)))),
    )

-- what a search of rising codes finds is the code's place, where the code is there
module _ (codes : List ℕ) (code : ℕ) (up : rises codes ≡ true) where
  row_found : (r : Result ℕ ℕ) → MatchResult r (λ i. (i < length codes) × (get_or codes i 0 ≡ code)) (λ i. (i ≤ length codes) × ((k : ℕ) → k < i → get_or codes k 0 < code) × ((k : ℕ) → i ≤ k → k < length codes → code < get_or codes k 0))
      → result_ok r ≡ row_of codes code
  row_found (Ok i) h =
      let p : i ≡ place_in codes code = place_is codes code i (omega (arith, h.0)) (λ _. h.1) (λ k l same. omega (arith, h.0, h.1, rising codes up k i l h.0)) in
      rw (← p, lt-ltb i (length codes) h.0)
  row_found (Err i) h =
      let p : length codes ≡ place_in codes code = place_is codes code (length codes) (omega arith) (λ l. absurd (omega arith)) (λ k l same. grind (arith, h.1 k, h.2 k)) in
      rw (← p, le-ltb (length codes) (length codes) (omega arith))

  pub found : (r : Result ℕ ℕ) → IsBinarySearchResult (λ c. nat_cmp c code) codes r → result_ok r ≡ row_of codes code
  found r h = row_found r (searched codes code r h (λ i j le lt. ⊎_elim (λ same. omega (arith, ap (λ k. get_or codes k 0) same)) (λ less. omega (arith, rising codes up i j less lt)) (eq-or-lt_of_le le)))

-- the row of a code is its place, and is there
pub row_place : (codes : List ℕ) (code row : ℕ) → row_of codes code ≡ Some row → (row ≡ place_in codes code) × (row < length codes)
row_place codes code row e = by (place_in codes code) (length codes) (ltb (place_in codes code) (length codes)) refl e
  where
    by : (at end : ℕ) (t : Bool) → ltb at end ≡ t → (if t then Some at else None) ≡ Some row → (row ≡ at) × (row < end)
    by at end true f h = let same : at ≡ row = cc in (sym same, omega (arith, same, ltb-true at end f))
    by at end false f h = absurd (cc)

-- and where it has no row, its place is the end
pub no_row : (codes : List ℕ) (code : ℕ) → row_of codes code ≡ None → length codes ≤ place_in codes code
no_row codes code e = by (place_in codes code) (length codes) (ltb (place_in codes code) (length codes)) refl e
  where
    by : (at end : ℕ) (t : Bool) → ltb at end ≡ t → (if t then Some at else None) ≡ None → end ≤ at
    by at end true f h = absurd (cc)
    by at end false f h = ltb-false at end f

module _ {A : Type 0} where
  -- the value beside a code stands at the code's place
  pub beside_place : (rows : List (ℕ × A)) (code : ℕ) (other : A) → beside rows code other ≡ get_or (values_of rows) (place_in (codes_of rows) code) other
  unfolding beside place_in
  beside_place [] code other = refl
  beside_place (row ∷ rows) code other = go (eqb row.0 code) (beside_place rows code other)
    where
      go : (t : Bool) → beside rows code other ≡ get_or (values_of rows) (place_in (codes_of rows) code) other
          → (if t then row.1 else beside rows code other) ≡ get_or (row.1 ∷ values_of rows) (if t then 0 else suc (place_in (codes_of rows) code)) other
      go true ih = refl
      go false ih = ih
