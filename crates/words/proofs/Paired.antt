-- The words of a part as pairs of bytes.
use mathlib.Core.Path.{◌≡◌, refl, ap₂}
use mathlib.Core.List.{List, [], ◌∷◌, map}
use Prim.Native.Nat.{ℕ, zero, suc, ◌/◌, ◌<◌}
use native.Mathlib.Omega.{arith}
use lib.ListN.{length}
use Rattle.std.specs.Int.{w16, from_be_bytes}
use Rattle.std.specs.Simd.{first_chunks}
use Rattle.words.specs.Words.{words_of, All, Below}
use Rattle.words.proofs.Lists.{all_take, all_drop}

-- a part's pairs are its words
pub words_paired : (n : ℕ) (b : List ℕ) → n ≡ length b / 2 → map (from_be_bytes w16) (first_chunks 2 n b) ≡ words_of b
unfolding words_of
words_paired zero [] e = refl
words_paired zero (x ∷ []) e = refl
words_paired zero (x ∷ y ∷ r) e = absurd (omega arith)
words_paired (suc n) [] e = absurd (omega arith)
words_paired (suc n) (x ∷ []) e = absurd (omega arith)
words_paired (suc n) (x ∷ y ∷ r) e = ap₂ ◌∷◌ (omega arith) (words_paired n r (omega arith))

-- of bytes
pub pairs_below : (n : ℕ) (b : List ℕ) → Below 256 b → All (Below 256) (first_chunks 2 n b)
pairs_below zero b h = tt
pairs_below (suc n) b h = (all_take (λ x. x < 256) 2 b h, pairs_below n _ (all_drop (λ x. x < 256) 2 b h))
