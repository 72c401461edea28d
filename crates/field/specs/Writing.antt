-- Document 01, "The lines": a number field as it is written.
use Rattle.std.specs.Prelude.{ℕ, ◌-◌, List, [], ◌∷◌, ◌++◌, length, replicate, nat_lt}
use Rattle.std.specs.Prelude.{if◌then◌else◌}
use Rattle.units.specs.Decimal.{digit, decimal}

-- "two's complement": how far from 0 the value of a word lies
abbrev pub magnitude_of : ℕ → ℕ
magnitude_of w = if nat_lt w 32768 then w else 65536 - w

-- "a minus before the first digit"
abbrev pub sign_of : ℕ → List ℕ
sign_of w = if nat_lt w 32768 then [] else 45 ∷ []

-- `n` blanks
abbrev pub blanks : ℕ → List ℕ
blanks n = replicate n 32

-- "six columns, right-justified, blank on the left"
abbrev pub rightmost : List ℕ → List ℕ
rightmost text = blanks (6 - length text) ++ text

-- "A number field is six columns, right-justified, blank on the left, a minus before the first digit, no leading zeros"
unfoldable pub field_of : ℕ → List ℕ
field_of w = rightmost (sign_of w ++ decimal 5 (magnitude_of w))

-- the bytes of a written field: a blank, a minus or a digit
pub data FieldByte : ℕ → Type 0 where
  blank : FieldByte 32
  minus : FieldByte 45
  figure : (n : ℕ) → FieldByte (digit n)
