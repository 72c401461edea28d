-- No other in-order packing uses fewer blocks.
use mathlib.Core.Path.{◌≡◌, refl, ap}
use mathlib.Core.Bool.{Bool, true, false}
use mathlib.Core.List.{List, [], ◌∷◌, ◌++◌, flatten}
use Prim.Native.Nat.{ℕ, suc, ◌+◌, ◌≤◌, ◌<◌}
use native.Mathlib.Omega.{arith}
use borrow.Author.Tests.{leb-true, leb-false}
use lib.Dec.{leb}
use lib.ListN.{length, length-append}
use Rattle.words.specs.Words.{joined, All, most_record_words}
use Rattle.packing.specs.Packing.{Group, onto, packed, groups}
use Rattle.packing.proofs.Groups.{packed_current, packed_new, some_packed}

-- the blocks that records take behind `used` words of the current one, which counts too
cost : ℕ → List (List ℕ) → ℕ
cost used rs = length (packed used rs)

length-onto : (r : List ℕ) (gs : List Group) → 1 ≤ length gs → length (onto r gs) ≡ length gs
length-onto r [] h = absurd (omega arith)
length-onto r (g ∷ gs) h = refl

-- a record that fits costs nothing, another one a block
cost_current : (used : ℕ) (r : List ℕ) (rs : List (List ℕ)) → used + length r ≤ most_record_words → cost used (r ∷ rs) ≡ cost (used + length r) rs
unfolding cost
cost_current used r rs h = rw (packed_current used r rs h) (length-onto r (packed (used + length r) rs) (some_packed (used + length r) rs))

cost_new : (used : ℕ) (r : List ℕ) (rs : List (List ℕ)) → most_record_words < used + length r → cost used (r ∷ rs) ≡ suc (cost (length r) rs)
unfolding cost
cost_new used r rs h = rw (packed_new used r rs h) (ap suc (length-onto r (packed (length r) rs) (some_packed (length r) rs)))

-- behind fewer words the cost is the same, or one block less
record Near (few many : ℕ) : Type 0 where
  no_more : few ≤ many
  one_less : many ≤ suc few

near : (v u : ℕ) (rs : List (List ℕ)) → v ≤ u → Near (cost v rs) (cost u rs)
unfolding cost packed
near v u [] h = record { no_more = omega arith; one_less = omega arith }
near v u (r ∷ rs) h = by (leb (u + length r) most_record_words) refl (leb (v + length r) most_record_words) refl (λ w x. near w x rs)
  where
    by : (s : Bool) → leb (u + length r) most_record_words ≡ s → (t : Bool) → leb (v + length r) most_record_words ≡ t
        → ((w x : ℕ) → w ≤ x → Near (cost w rs) (cost x rs)) → Near (cost v (r ∷ rs)) (cost u (r ∷ rs))
    by true p t q on =
        let fits = leb-true (u + length r) most_record_words p in
        rw (cost_current u r rs fits, cost_current v r rs (omega arith)) (on (v + length r) (u + length r) (omega arith))
    by false p true q on =
        let n = on (length r) (v + length r) (omega arith) in
        rw (cost_new u r rs (leb-false (u + length r) most_record_words p), cost_current v r rs (leb-true (v + length r) most_record_words q))
        (record { no_more = n.one_less; one_less = omega (arith, n.no_more) })
    by false p false q on =
        rw (cost_new u r rs (leb-false (u + length r) most_record_words p), cost_new v r rs (leb-false (v + length r) most_record_words q))
        (record { no_more = omega arith; one_less = omega arith })

-- a group that fits behind the used words costs nothing
cost_group : (used m : ℕ) (g : Group) (rs : List (List ℕ)) → used + length (joined g) ≤ most_record_words → ((v : ℕ) → cost v rs ≤ m) → cost used (g ++ rs) ≤ m
unfolding joined
cost_group used m [] rs h k = k used
cost_group used m (r ∷ g) rs h k =
    let l = length-append r (joined g) in
    omega (arith, cost_current used r (g ++ rs) (omega arith), cost_group (used + length r) m g rs (omega arith) k)

-- so groups cost one block each, and the current one
cost_groups : (used : ℕ) (gs : List Group) → All (λ g. length (joined g) ≤ most_record_words) gs → cost used (flatten gs) ≤ suc (length gs)
unfolding cost packed flatten
cost_groups used [] h = omega arith
cost_groups used (g ∷ gs) h =
    let first = cost_group 0 (suc (length gs)) g (flatten gs) (omega (arith, h.0)) (λ v. cost_groups v gs h.1) in
    omega (arith, (near 0 used (g ++ flatten gs) (omega arith)).one_less)

groups_cost : (rs : List (List ℕ)) → length (groups rs) ≤ cost 0 rs
unfolding groups cost
groups_cost [] = omega arith
groups_cost (r ∷ rs) = omega arith

pub fewest : (rs : List (List ℕ)) (gs : List Group) → flatten gs ≡ rs → All (λ g. length (joined g) ≤ most_record_words) gs → length (groups rs) ≤ length gs
unfolding groups flatten
fewest rs [] e h = rw (← e) (omega arith)
fewest rs (g ∷ gs) e h =
    let first = cost_group 0 (suc (length gs)) g (flatten gs) (omega (arith, h.0)) (λ v. cost_groups v gs h.1) in
    rw (← e) (omega (arith, groups_cost (g ++ flatten gs)))
