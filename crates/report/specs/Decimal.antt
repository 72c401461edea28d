-- Numbers of 32 bits in decimal.
use Rattle.std.specs.Prelude.{ℕ, List, [], ◌∷◌, ◌++◌}
use Rattle.units.specs.Decimal.{decimal}

-- a number of 32 bits in decimal: ten digits hold it
unfoldable pub decimal_of : ℕ → List ℕ
decimal_of n = decimal 10 n

-- numbers with one space before each
unfoldable pub spaced : List ℕ → List ℕ
spaced [] = []
spaced (n ∷ ns) = 32 ∷ (decimal_of n ++ spaced ns)
