-- The columns of a line, those that it lacks among them.
use mathlib.Core.Path.{◌≡◌, refl, ap, ◌∙◌}
use mathlib.Core.Bool.{Bool, true, false}
use mathlib.Core.List.{List, ◌∷◌, ◌++◌, append-nil}
use Prim.Native.Nat.{ℕ, zero, suc, ◌+◌, ◌-◌, ◌≤◌}
use native.Mathlib.Omega.{arith}
use borrow.Author.Tests.{ltb-true, ltb-false, le-ltb}
use lib.Dec.{ltb}
use Rattle.units.specs.Units.{Line}
use Rattle.units.specs.Answers.{passed}
use Rattle.read_columns.specs.Columns.{right_to}
use lib.ListN.{length, get_or, take, drop, replicate, drop_of_length-le, get_or-eq_default}
use lib.Seq.{drop-cons, take-nil}
use Rattle.words.specs.Words.{All}
use Rattle.words.proofs.Lists.{all_take, all_drop, all_append, all_parts, all_replicate}
use Rattle.field.specs.Reading.{columns}

pub length-columns : (n : ℕ) (l : List ℕ) (at : ℕ) → length (columns n l at) ≡ n
unfolding columns
length-columns zero l at = refl
length-columns (suc n) l at = ap suc (length-columns n l (suc at))

-- "Columns that a line lacks are blank"
pub columns_are : (n : ℕ) (l : List ℕ) (k : ℕ) → columns n l k ≡ take n (drop k l) ++ replicate (n - (length l - k)) 32
unfolding columns
columns_are zero l k = let e : 0 - (length l - k) ≡ 0 = omega arith in rw e
columns_are (suc n) l k = by (columns_are n l (suc k)) (ltb k (length l)) refl
  where
    by : columns n l (suc k) ≡ take n (drop (suc k) l) ++ replicate (n - (length l - suc k)) 32 → (t : Bool) → ltb k (length l) ≡ t → get_or l k 32 ∷ columns n l (suc k) ≡ take (suc n) (drop k l) ++ replicate (suc n - (length l - k)) 32
    by next true t =
        let h = ltb-true k (length l) t in
        let e : suc n - (length l - k) ≡ n - (length l - suc k) = omega arith in
        rw (drop-cons l k 32 h, e) (ap (λ c. get_or l k 32 ∷ c) next)
    by next false t =
        let h = ltb-false k (length l) t in
        let e : suc n - (length l - k) ≡ suc n = omega arith in
        let f : n - (length l - suc k) ≡ n = omega arith in
        rw (get_or-eq_default l 32 h, drop_of_length-le l h, e)
        (ap (λ c. 32 ∷ c) (next ∙ rw (drop_of_length-le l {i = suc k} (omega arith), f, take-nil n)))

-- what holds of a line's bytes there and of a blank holds of its columns
module _ (P : ℕ → Type 0) (n : ℕ) (l : List ℕ) (k : ℕ) where
  pub part-columns : P 32 → All P (take n (drop k l)) → All P (columns n l k)
  part-columns o h = let m = n - (length l - k) in rw (columns_are n l k) (all_append P (take n (drop k l)) (replicate m 32) h (all_replicate P m 32 o))

  pub columns-part : All P (columns n l k) → All P (take n (drop k l))
  columns-part h = (all_parts P (take n (drop k l)) (replicate (n - (length l - k)) 32) (rw (columns_are n l k) at h)).0

pub columns-all : (P : ℕ → Type 0) → P 32 → (n : ℕ) (l : List ℕ) (k : ℕ) → All P l → All P (columns n l k)
columns-all P o n l k h = part-columns P n l k o (all_take P n (drop k l) (all_drop P k l h))

-- a line that has them all
pub columns_full : (n : ℕ) (l : List ℕ) (k : ℕ) → k + n ≤ length l → columns n l k ≡ take n (drop k l)
columns_full n l k h = let e : n - (length l - k) ≡ 0 = omega arith in columns_are n l k ∙ rw e (append-nil (take n (drop k l)))

-- the first c columns are right, and there is no next one
pub right_to_lem : (n num : ℕ) (l : Line) (c : ℕ) → length l ≤ c → passed tt ≡ right_to n num l c
unfolding right_to
right_to_lem n num l c h = simp (le-ltb c (length l) h)
