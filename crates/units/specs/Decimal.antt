-- Numbers in decimal.
use Rattle.std.specs.Prelude.{List, [], ◌∷◌, ◌++◌, ℕ, zero, suc, ◌+◌, ◌/◌, ◌%◌, ltb}
use Rattle.std.specs.Prelude.{if◌then◌else◌}

-- the last digit of a number
abbrev pub digit : ℕ → ℕ
digit n = 48 + n % 10

-- "no leading zeros": the digits of a number that has at most `most`
unfoldable pub decimal : ℕ → ℕ → List ℕ
decimal zero n = []
decimal (suc most) n = (if ltb n 10 then [] else decimal most (n / 10)) ++ digit n ∷ []
