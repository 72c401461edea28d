-- The groups that records are packed into: all records in their order, no group too long, and none begun too early.
use mathlib.Core.Path.{◌≡◌, refl, sym, ap, ◌∙◌}
use mathlib.Core.List.{List, [], ◌∷◌, ◌++◌, flatten}
use Prim.Native.Nat.{ℕ, suc, ◌+◌, ◌≤◌, ◌<◌}
use native.Mathlib.Nat.{zero-add}
use native.Mathlib.Omega.{arith}
use borrow.Author.Tests.{leb-true, leb-false, le-leb, lt-leb}
use lib.Dec.{leb}
use lib.ListN.{length, length-append}
use Rattle.units.proofs.Choosing.{by_test}
use Rattle.words.specs.Words.{joined, All, most_record_words}
use Rattle.packing.specs.Packing.{Group, onto, packed, groups}

-- a record that has words, and that a block has room for
pub record Fits (r : List ℕ) : Type 0 where
  pub least : 1 ≤ length r
  pub most : length r ≤ most_record_words

-- a record goes into the current group if it fits
pub packed_current : (used : ℕ) (r : List ℕ) (rs : List (List ℕ)) → used + length r ≤ most_record_words → packed used (r ∷ rs) ≡ onto r (packed (used + length r) rs)
unfolding packed
packed_current used r rs h = simp (le-leb (used + length r) most_record_words h)

-- else into a new one
pub packed_new : (used : ℕ) (r : List ℕ) (rs : List (List ℕ)) → most_record_words < used + length r → packed used (r ∷ rs) ≡ [] ∷ onto r (packed (length r) rs)
unfolding packed
packed_new used r rs h = simp (lt-leb (used + length r) most_record_words h)

some_onto : (r : List ℕ) (gs : List Group) → 1 ≤ length (onto r gs)
some_onto r [] = omega arith
some_onto r (g ∷ gs) = omega arith

-- the current group is one of them, also without a record
pub some_packed : (used : ℕ) (rs : List (List ℕ)) → 1 ≤ length (packed used rs)
unfolding packed
some_packed used [] = omega arith
some_packed used (r ∷ rs) =
    let new : 1 ≤ suc (length (onto r (packed (length r) rs))) = omega arith in
    by_test (λ (gs : List Group). 1 ≤ length gs) (leb (used + length r) most_record_words) _ _ (λ _. some_onto r (packed (used + length r) rs)) (λ _. new)

-- ---- the records in their order

flatten-onto : (r : List ℕ) (gs : List Group) → flatten (onto r gs) ≡ r ∷ flatten gs
unfolding flatten
flatten-onto r [] = refl
flatten-onto r (g ∷ gs) = refl

packed_joins : (used : ℕ) (rs : List (List ℕ)) → flatten (packed used rs) ≡ rs
unfolding packed flatten
packed_joins used [] = refl
packed_joins used (r ∷ rs) =
    let to : (n : ℕ) → flatten (onto r (packed n rs)) ≡ r ∷ rs = λ n. flatten-onto r (packed n rs) ∙ ap (λ l. r ∷ l) (packed_joins n rs) in
    by_test (λ gs. flatten gs ≡ r ∷ rs) (leb (used + length r) most_record_words) _ _ (λ _. to (used + length r)) (λ _. to (length r))

pub groups_join : (rs : List (List ℕ)) → flatten (groups rs) ≡ rs
unfolding groups flatten
groups_join [] = refl
groups_join (r ∷ rs) = packed_joins 0 (r ∷ rs)

-- ---- the words of each

-- the words of a group's first record
abbrev first_words : Group → ℕ
first_words [] = 0
first_words (r ∷ g) = length r

-- a group behind one of n words: it has a record, which had no room there, and room for all of its own
pub record NewGroup (n : ℕ) (g : Group) : Type 0 where
  pub some : 1 ≤ length g
  pub room : length (joined g) ≤ most_record_words
  pub late : most_record_words < n + first_words g

-- groups one after the other, behind one of n words
abbrev pub NewGroups : ℕ → List Group → Type 0
NewGroups n [] = Unit {0}
NewGroups n (g ∷ gs) = NewGroup n g × NewGroups (length (joined g)) gs

-- a group that goes on behind n words, and those behind it
abbrev GoesOn : ℕ → List Group → Type 0
GoesOn n [] = ⊥
GoesOn n (g ∷ gs) = (n + length (joined g) ≤ most_record_words) × NewGroups (n + length (joined g)) gs

-- a record in front of it, in the current group
onto_current : (n : ℕ) (r : List ℕ) (gs : List Group) → GoesOn (n + length r) gs → GoesOn n (onto r gs)
unfolding joined
onto_current n r [] h = absurd h
onto_current n r (g ∷ gs) h =
    let l : n + length r + length (joined g) ≡ n + length (r ++ joined g) = omega (arith, length-append r (joined g)) in
    rw (← l) h

-- or in a new one
onto_new : (n : ℕ) (r : List ℕ) (gs : List Group) → most_record_words < n + length r → GoesOn (length r) gs → NewGroups n (onto r gs)
unfolding joined
onto_new n r [] late h = absurd h
onto_new n r (g ∷ gs) late h =
    let l : length r + length (joined g) ≡ length (r ++ joined g) = sym (length-append r (joined g)) in
    let k = rw l at h in
    (record { some = omega arith; room = k.0; late = late }, k.1)

packed_goes_on : (used : ℕ) (rs : List (List ℕ)) → used ≤ most_record_words → All Fits rs → GoesOn used (packed used rs)
unfolding packed joined
packed_goes_on used [] h each = (omega arith, tt)
packed_goes_on used (r ∷ rs) h each =
    by_test (GoesOn used) (leb (used + length r) most_record_words) _ _
    (λ t. onto_current used r (packed (used + length r) rs) (packed_goes_on (used + length r) rs (leb-true (used + length r) most_record_words t) each.1))
    (λ t. (omega arith, onto_new (used + 0) r (packed (length r) rs) (omega (arith, leb-false (used + length r) most_record_words t)) (packed_goes_on (length r) rs each.0.most each.1)))

-- the first one as if behind a full one
pub groups_new : (rs : List (List ℕ)) → All Fits rs → NewGroups most_record_words (groups rs)
unfolding groups
groups_new [] each = tt
groups_new (r ∷ rs) each =
    rw (packed_current 0 r rs (omega (arith, each.0.most)), zero-add)
    (onto_new most_record_words r (packed (length r) rs) (omega (arith, each.0.least)) (packed_goes_on (length r) rs each.0.most each.1))

-- what a group behind another is known for, of each
pub new_each : (n : ℕ) (gs : List Group) (P : Group → Type 0) → ((m : ℕ) (g : Group) → NewGroup m g → P g) → NewGroups n gs → All P gs
new_each n [] P f h = tt
new_each n (g ∷ gs) P f h = (f n g h.0, new_each (length (joined g)) gs P f h.1)

-- and the first record of each did not fit into the one before it
pub new_late : (n : ℕ) (front back : List Group) (g : Group) (r : List ℕ) (h : Group) → NewGroups n (front ++ (g ∷ (r ∷ h) ∷ back)) → most_record_words < length (joined g) + length r
new_late n [] back g r h k = k.1.0.late
new_late n (f ∷ front) back g r h k = new_late (length (joined f)) front back g r h k.1
