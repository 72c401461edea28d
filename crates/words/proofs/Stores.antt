-- Stores into a part of a list, and stores of words among words as stores of their bytes.
use mathlib.Core.Path.{◌≡◌, refl, ap, ◌∙◌}
use mathlib.Core.Logic.{◌⊎◌, inl, inr}
use mathlib.Core.List.{List, [], ◌∷◌, ◌++◌}
use Prim.Native.Nat.{ℕ, zero, suc, ◌+◌, ◌*◌, ◌/◌, ◌%◌, ◌≤◌, ◌<◌}
use native.Mathlib.Nat.{zero-add, suc-add}
use native.Mathlib.Omega.{arith}
use lib.ListN.{length, get_or, set, length-append, length-set}
use lib.Seq.{sets, get_or-set_other, set-append_left, sets-eq, drop_at}
use Rattle.units.specs.Units.{bytes_of_words}
use Rattle.words.specs.Words.{bytes_of}

module _ {A : Type 0} where
  -- stores behind a front leave it alone
  pub set_right : (xs ys : List A) (k : ℕ) (v : A) → set (xs ++ ys) (length xs + k) v ≡ xs ++ set ys k v
  set_right [] ys k v = rw zero-add
  set_right (x ∷ xs) ys k v = rw suc-add (ap (λ l. x ∷ l) (set_right xs ys k v))

  pub sets_right : (vs xs ys : List A) (k : ℕ) → sets (xs ++ ys) (length xs + k) vs ≡ xs ++ sets ys k vs
  sets_right [] xs ys k = refl
  sets_right (v ∷ vs) xs ys k =
      ap (λ l. sets l (suc (length xs + k)) vs) (set_right xs ys k v)
      ∙ ap (λ n. sets (xs ++ set ys k v) n vs) (omega arith)
      ∙ sets_right vs xs (set ys k v) (suc k)

  -- and stores within the front leave what is behind it alone
  pub sets_left : (vs xs ys : List A) (k : ℕ) → k + length vs ≤ length xs → sets (xs ++ ys) k vs ≡ sets xs k vs ++ ys
  sets_left [] xs ys k h = refl
  sets_left (v ∷ vs) xs ys k h =
      ap (λ l. sets l (suc k) vs) (set-append_left xs ys k v (omega arith))
      ∙ sets_left vs (set xs k v) ys (suc k) (rw (length-set xs k v) (omega arith))

  -- stores over all of a part put the new part in its place
  pub sets-part : (xs old new ys : List A) → length old ≡ length new → sets (xs ++ (old ++ ys)) (length xs) new ≡ xs ++ (new ++ ys)
  sets-part xs old new ys e =
      ap (λ n. sets (xs ++ (old ++ ys)) n new) (omega arith)
      ∙ sets_right new xs (old ++ ys) 0
      ∙ ap (λ l. xs ++ l) (sets-eq new (old ++ ys) 0 (omega (arith, length-append old ys)) ∙ ap (λ l. new ++ l) (drop_at old ys (0 + length new) (omega arith)))

-- a run of stores leaves what stands outside of it
pub sets_outside : (l vs : List ℕ) (i k : ℕ) → (k < i) ⊎ (i + length vs ≤ k) → get_or (sets l i vs) k 0 ≡ get_or l k 0
sets_outside l [] i k h = refl
sets_outside l (v ∷ vs) i k (inl h) = sets_outside (set l i v) vs (suc i) k (inl (omega arith)) ∙ get_or-set_other l i k v 0 (λ e. omega arith)
sets_outside l (v ∷ vs) i k (inr h) = sets_outside (set l i v) vs (suc i) k (inr (omega arith)) ∙ get_or-set_other l i k v 0 (λ e. omega arith)

bytes_set : (ws : List ℕ) (i w : ℕ) → sets (bytes_of ws) (bytes_of_words i) (bytes_of (w ∷ [])) ≡ bytes_of (set ws i w)
unfolding bytes_of
bytes_set [] i w = refl
bytes_set (x ∷ ws) zero w = refl
bytes_set (x ∷ ws) (suc i) w =
    let e : suc i * 2 ≡ suc (suc (i * 2)) = omega arith in
    rw e (ap (λ l. (x / 256) ∷ ((x % 256) ∷ l)) (bytes_set ws i w))

-- words stored among words are their bytes stored among the bytes: a word after the other
pub bytes_sets : (ws : List ℕ) (i : ℕ) (xs : List ℕ) → sets (bytes_of ws) (bytes_of_words i) (bytes_of xs) ≡ bytes_of (sets ws i xs)
unfolding bytes_of
bytes_sets ws i [] = refl
bytes_sets ws i (x ∷ xs) =
    let e : suc (suc (i * 2)) ≡ suc i * 2 = omega arith in
    ap (λ l. sets l (suc (suc (i * 2))) (bytes_of xs)) (bytes_set ws i x)
    ∙ ap (λ k. sets (bytes_of (set ws i x)) k (bytes_of xs)) e
    ∙ bytes_sets (set ws i x) (suc i) xs
