-- Facts about lists that every layer cites.
use mathlib.Core.Path.{◌≡◌}
use mathlib.Core.List.{List, [], ◌∷◌, ◌++◌, map, flatten}
use Prim.Native.Nat.{ℕ, zero, suc, ◌-◌, ◌≤◌, ◌<◌}
use native.Mathlib.Omega.{arith}
use lib.ListN.{length, get_or, take, drop, set, replicate}
use lib.Seq.{slice}
use Rattle.std.proofs.lemmas.Slice.{between_is}
use Rattle.words.specs.Words.{All}

module _ {A : Type 0} where
  -- a part by its start and length is the slice by its two ends
  pub part_slice : (f t : ℕ) (l : List A) → f ≤ t → take (t - f) (drop f l) ≡ slice f t l
  part_slice f t l _ = between_is l f t

module _ {A : Type 0} (P : A → Type 0) where
  -- what holds of all holds of the first ones, and of the others
  pub all_take : (n : ℕ) (l : List A) → All P l → All P (take n l)
  all_take zero l h = tt
  all_take (suc n) [] h = tt
  all_take (suc n) (x ∷ xs) h = (h.0, all_take n xs h.1)

  pub all_drop : (n : ℕ) (l : List A) → All P l → All P (drop n l)
  all_drop zero l h = h
  all_drop (suc n) [] h = tt
  all_drop (suc n) (x ∷ xs) h = all_drop n xs h.1

  pub all_append : (xs ys : List A) → All P xs → All P ys → All P (xs ++ ys)
  all_append [] ys h k = k
  all_append (x ∷ xs) ys h k = (h.0, all_append xs ys h.1 k)

  -- of each part of a list
  pub all_parts : (xs ys : List A) → All P (xs ++ ys) → All P xs × All P ys
  all_parts [] ys h = (tt, h)
  all_parts (x ∷ xs) ys h = let p = all_parts xs ys h.1 in ((h.0, p.0), p.1)

  -- of one element, or of what stands in for it
  pub all_get_d : (l : List A) (i : ℕ) (d : A) → P d → All P l → P (get_or l i d)
  all_get_d [] i d o h = o
  all_get_d (x ∷ xs) zero d o h = h.0
  all_get_d (x ∷ xs) (suc i) d o h = all_get_d xs i d o h.1

  -- of one that is there
  pub all-at : (l : List A) (i : ℕ) (d : A) → i < length l → All P l → P (get_or l i d)
  all-at [] i d h a = absurd (omega arith)
  all-at (x ∷ xs) zero d h a = a.0
  all-at (x ∷ xs) (suc i) d h a = all-at xs i d (omega arith) a.1

  -- of all, one of them replaced
  pub all_set : (l : List A) (i : ℕ) (x : A) → P x → All P l → All P (set l i x)
  all_set [] i x p a = tt
  all_set (y ∷ ys) zero x p a = (p, a.1)
  all_set (y ∷ ys) (suc i) x p a = (a.0, all_set ys i x p a.1)

  pub all_replicate : (n : ℕ) (a : A) → P a → All P (replicate n a)
  all_replicate zero a h = tt
  all_replicate (suc n) a h = (h, all_replicate n a h)

-- what follows for each
pub all_map : {A : Type 0} (P Q : A → Type 0) → ((x : A) → P x → Q x) → (l : List A) → All P l → All Q l
all_map P Q f [] h = tt
all_map P Q f (x ∷ xs) h = (f x h.0, all_map P Q f xs h.1)

-- what holds of each image
pub all_mapped : {A B : Type 0} (P : B → Type 0) (f : A → B) (l : List A) → All (λ x. P (f x)) l → All P (map f l)
all_mapped P f [] h = tt
all_mapped P f (x ∷ xs) h = (h.0, all_mapped P f xs h.1)

-- both of what holds
pub all_both : {A : Type 0} (P Q : A → Type 0) (l : List A) → All P l → All Q l → All (λ x. P x × Q x) l
all_both P Q [] h k = tt
all_both P Q (x ∷ l) h k = ((h.0, k.0), all_both P Q l h.1 k.1)

-- of all elements of lists, list by list, and the other way
pub all-flatten : {A : Type 0} (P : A → Type 0) (ls : List (List A)) → All P (flatten ls) → All (All P) ls
unfolding flatten
all-flatten P [] h = tt
all-flatten P (l ∷ ls) h = let p = all_parts P l (flatten ls) h in (p.0, all-flatten P ls p.1)

pub flatten-all : {A : Type 0} (P : A → Type 0) (ls : List (List A)) → All (All P) ls → All P (flatten ls)
unfolding flatten
flatten-all P [] h = tt
flatten-all P (l ∷ ls) h = all_append P l (flatten ls) h.0 (flatten-all P ls h.1)
