-- Document 01, "The lines": a number field as it is read, column by column.
use Rattle.std.specs.Prelude.{ℕ, zero, suc, ◌+◌, ◌-◌, ◌*◌, ◌%◌, Bool, true, false, ◌&&◌, List, [], ◌∷◌, ◌==◌, nat_le, slice_index_or, Option, Some, None}
use Rattle.std.specs.Prelude.{if◌then◌else◌}
use Rattle.field.specs.declared.Scan.{Scan}
use Rattle.field.specs.declared.Scan.TheVariants.{Blank, Sign, Digits, Spoiled}

-- "then digits": one more after the value m
abbrev pub with_digit : Bool → ℕ → ℕ → Scan
with_digit minus m b = if nat_le 48 b && nat_le b 57 then Digits minus (m * 10 + (b - 48)) else Spoiled

-- "blanks, then at most one sign, then digits"
abbrev pub after_column : Scan → ℕ → Scan
after_column Blank b = if b == 32 then Blank else if b == 45 then Sign true else if b == 43 then Sign false else with_digit false 0 b
after_column (Sign minus) b = with_digit minus 0 b
after_column (Digits minus m) b = with_digit minus m b
after_column Spoiled b = Spoiled

-- one column after the other
abbrev pub scan_of : Scan → List ℕ → Scan
scan_of s [] = s
scan_of s (b ∷ bs) = scan_of (after_column s b) bs

-- "its value lies in -32768 to 32767", and "    -0" is 0; a bad field has no word
abbrev pub value_of : Bool → ℕ → Option ℕ
value_of true m = if nat_le m 32768 then Some ((65536 - m) % 65536) else None
value_of false m = if nat_le m 32767 then Some m else None

-- "its last column is a digit"
abbrev pub finish_of : Scan → Option ℕ
finish_of Blank = None
finish_of (Sign minus) = None
finish_of (Digits minus m) = value_of minus m
finish_of Spoiled = None

-- "A field is blanks, then at most one sign, then digits to its last column"
unfoldable pub read_field : List ℕ → Option ℕ
read_field bs = finish_of (scan_of Blank bs)

-- the n columns of a line from `at` on, counted from 0: "Columns that a line lacks are blank"
unfoldable pub columns : ℕ → List ℕ → ℕ → List ℕ
columns zero line at = []
columns (suc n) line at = slice_index_or line at 32 ∷ columns n line (suc at)

-- the value of the digits so far
abbrev pub so_far : Scan → ℕ
so_far Blank = 0
so_far (Sign minus) = 0
so_far (Digits minus m) = m
so_far Spoiled = 0
