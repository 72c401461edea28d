-- Scans: how many pass before the first that is wrong.
use Rattle.std.specs.Prelude.{ℕ, suc, ◌/◌, ◌%◌, List, [], ◌∷◌, Bool, ◌&&◌, ltb, leb, eqb, length}
use Rattle.std.specs.Prelude.{if◌then◌else◌}

-- how many elements stand before the first that fails the test: all of them where none fails
unfoldable pub passing : (ℕ → Bool) → List ℕ → ℕ
passing p [] = 0
passing p (w ∷ ws) = if p w then suc (passing p ws) else 0

-- one of them fails
abbrev pub some_fails : (ℕ → Bool) → List ℕ → Bool
some_fails p l = ltb (passing p l) (length l)

-- a number from least to most
abbrev pub within : ℕ → ℕ → ℕ → Bool
within least most x = leb least x && leb x most

-- how many bytes "are 32 to 126" before the first that is not
abbrev pub plain_in : List ℕ → ℕ
plain_in l = passing (within 32 126) l

-- both bytes of a word from least to most
unfoldable pub word_within : ℕ → ℕ → ℕ → Bool
word_within least most w = within least most (w / 256) && within least most (w % 256)

-- a zero word
abbrev pub is_zero : ℕ → Bool
is_zero w = eqb w 0
