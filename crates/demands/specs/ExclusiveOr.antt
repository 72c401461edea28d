-- The exclusive or under the checksum: its laws, and what they say of a word that changes.
use Rattle.std.specs.Prelude.{◌≡◌, List, ℕ, ◌<◌, length, get_or, set}
use Rattle.std.specs.Int.Bits.{bit_xor}
use Rattle.words.specs.Words.{xor_all}

-- associative, commutative, and its own inverse
pub record XorLaws : Type 0 where
  pub associative : (a b c : ℕ) → bit_xor (bit_xor a b) c ≡ bit_xor a (bit_xor b c)
  pub commutative : (a b : ℕ) → bit_xor a b ≡ bit_xor b a
  pub inverse : (a b : ℕ) → bit_xor (bit_xor a b) b ≡ a

-- a word changed in its place: the old one goes out of the fold, the new one goes in
abbrev pub Patched : Type 0
Patched = (ws : List ℕ) (i w : ℕ) → i < length ws → xor_all (set ws i w) ≡ bit_xor (bit_xor (xor_all ws) (get_or ws i 0)) w
