-- What the code puts into a line on the way to a field.
use Rattle.std.specs.Prelude.{ℕ, ◌+◌, ◌-◌, ◌*◌, ◌/◌, ◌%◌, List, [], ◌∷◌, ◌++◌, length}
use Rattle.units.specs.Decimal.{digit, decimal}
use Rattle.field.specs.Writing.{blanks}

-- the number with these four bytes, the lowest first
abbrev pub packed : ℕ → ℕ → ℕ → ℕ → ℕ
packed a b c d = a + b * 256 + c * 65536 + d * 16777216

-- the number whose bytes are the last four digits of another, zeros too
abbrev pub four_of : ℕ → ℕ
four_of n = packed (digit (n / 1000)) (digit (n / 100)) (digit (n / 10)) (digit n)

-- the bytes of a number below 2 ^ 32, the lowest first
abbrev pub four_bytes : ℕ → List ℕ
four_bytes x = x % 256 ∷ x / 256 % 256 ∷ x / 65536 % 256 ∷ x / 16777216 ∷ []

-- six columns: the digits of `n`, `lead` right before them, blanks on the left
unfoldable pub six_of : ℕ → ℕ → List ℕ
six_of lead n = blanks (5 - length (decimal 5 n)) ++ (lead ∷ decimal 5 n)
