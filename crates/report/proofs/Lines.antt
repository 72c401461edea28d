-- Lines of numbers, a piece at a time, and how long they are.
use mathlib.Core.Path.{◌≡◌, refl, sym, ap, ◌∙◌}
use mathlib.Core.List.{List, [], ◌∷◌, ◌++◌, map, append_assoc}
use Prim.Native.Nat.{ℕ, ◌+◌, ◌*◌, ◌≤◌, ◌<◌}
use native.Mathlib.Numerals.{add-one}
use native.Mathlib.Omega.{arith}
use lib.ListN.{length, get_or, drop, length-append}
use lib.Seq.{drop-cons}
use Rattle.units.specs.declared.Answer.{Answer}
use Rattle.units.specs.Answers.{Verdict, passed, refused}
use Rattle.report.specs.Text.{bytes_from, text, behind, line_of}
use Rattle.report.specs.Decimal.{decimal_of, spaced}
use Rattle.report.specs.Refusal.{refusal_line, longest_refusal, or_refusal}
use Rattle.report.proofs.Digits.{most_digits}

-- the next number, and the others
pub spaced_turn : (ns : List ℕ) (i : ℕ) → i < length ns → spaced (drop i ns) ≡ (32 ∷ []) ++ (decimal_of (get_or ns i 0) ++ spaced (drop (i + 1) ns))
unfolding spaced
spaced_turn ns i h = rw (add-one, drop-cons ns i 0)

-- numbers behind the first item of a line
pub behind_numbers : (ns : List ℕ) (xs : List (List ℕ)) → behind (map decimal_of ns ++ xs) ≡ spaced ns ++ behind xs
unfolding behind spaced
behind_numbers [] xs = refl
behind_numbers (n ∷ ns) xs =
    ap (λ l. 32 ∷ (decimal_of n ++ l)) (behind_numbers ns xs) ∙ ap (λ l. 32 ∷ l) (sym (append_assoc (decimal_of n) (spaced ns) (behind xs)))

module _ (r : Answer) where
  abbrev pub four_numbers : List ℕ
  four_numbers = r.n ∷ r.a ∷ r.b ∷ r.c ∷ []

  pub refusal_pieces : refusal_line r ≡ text "refused" ++ (spaced four_numbers ++ (10 ∷ []))
  unfolding refusal_line line_of behind
  refusal_pieces = ap (λ l. text "refused" ++ l) (behind_numbers four_numbers [])

pub spaced_most : (ns : List ℕ) → length (spaced ns) ≤ 11 * length ns
unfolding spaced
spaced_most [] = omega arith
spaced_most (n ∷ ns) = omega (arith, length-append (decimal_of n) (spaced ns), most_digits n, spaced_most ns)

pub refusal_most : (r : Answer) → length (refusal_line r) ≤ longest_refusal
unfolding bytes_from
refusal_most r =
    omega (
      arith,
      ap length (refusal_pieces r),
      length-append (text "refused") (spaced (four_numbers r) ++ (10 ∷ [])),
      length-append (spaced (four_numbers r)) (10 ∷ []),
      spaced_most (four_numbers r),
    )

-- where what is made of what passed is no longer than k, nothing longer is printed
pub printed_most : {A : Type 0} (f : A → List ℕ) (k : ℕ) → longest_refusal ≤ k → (v : Verdict A) → ((x : A) → v ≡ passed x → length (f x) ≤ k) → length (or_refusal f v) ≤ k
printed_most f k h (passed x) most = most x refl
printed_most f k h (refused r) most = omega (arith, refusal_most r)
