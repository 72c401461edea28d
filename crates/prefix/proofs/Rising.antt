-- What the computed test of a rising list gives at any two of its entries.
use mathlib.Core.Path.{◌≡◌}
use mathlib.Core.Bool.{true}
use mathlib.Core.List.{List, [], ◌∷◌}
use Prim.Native.Nat.{ℕ, zero, suc, ◌<◌}
use native.Mathlib.Omega.{arith}
use borrow.Author.Tests.{ltb-true}
use lib.Dec.{ltb}
use lib.ListN.{length, get_or}
use Rattle.units.proofs.Verdicts.{and_on}
use Rattle.prefix.specs.Rising.{rises}

-- of two entries the later is the higher
pub rising : (l : List ℕ) → rises l ≡ true → (i j : ℕ) → i < j → j < length l → get_or l i 0 < get_or l j 0
unfolding rises
rising [] e i j h k = absurd (omega arith)
rising (x ∷ []) e i j h k = absurd (omega arith)
rising (x ∷ y ∷ l) e i zero h k = absurd (omega arith)
rising (x ∷ y ∷ l) e zero (suc zero) h k = ltb-true x y (and_on (ltb x y) (rises (y ∷ l)) e).0
rising (x ∷ y ∷ l) e zero (suc (suc j)) h k =
    let b = and_on (ltb x y) (rises (y ∷ l)) e in
    omega (arith, ltb-true x y b.0, rising (y ∷ l) b.1 zero (suc j) (omega arith) (omega arith))
rising (x ∷ y ∷ l) e (suc i) (suc j) h k = rising (y ∷ l) (and_on (ltb x y) (rises (y ∷ l)) e).1 i j (omega arith) (omega arith)
