-- Document 01, "Read form" and rows 20, 22 and 26: what stands in the columns of a line. `num` is the line's number in the text.
use Rattle.std.specs.Prelude.{ℕ, zero, suc, ◌+◌, min, List, [], ◌∷◌, Bool, ltb, leb, eqb, length, take, drop, Option, Some, None}
use Rattle.std.specs.Prelude.{if◌then◌else◌}
use Rattle.units.specs.Units.{columns_of_fields, Line}
use Rattle.units.specs.Answers.{answer, Verdict, passed, refused, onward}
use Rattle.words.specs.Scans.{passing, plain_in}
use Rattle.field.specs.Reading.{read_field, columns}

-- row n, 20 or 26: the first c columns of line num are right, and the next, where the line has one, is the "first such column"
unfoldable pub right_to : ℕ → ℕ → Line → ℕ → Verdict (Unit {0})
right_to n num l c = if ltb c (length l) then refused (answer n num (c + 1) 0) else passed tt

-- "a line has at most 120 bytes before its end", "Other bytes are 32 to 126": how many columns stand before the first that is past 120 or has another byte
abbrev pub plain_to : Line → ℕ
plain_to l = plain_in (take 120 l)

-- row 20: "line over 120, or bad byte"
unfoldable pub plain_line : ℕ → Line → Verdict (Unit {0})
plain_line num l = right_to 20 num l (plain_to l)

-- a blank column
abbrev pub is_blank : ℕ → Bool
is_blank b = eqb b 32

-- how many columns stand before the first that is not blank, of those after the first c
abbrev pub blank_to : ℕ → Line → ℕ
blank_to c l = c + passing is_blank (drop c l)

-- row 26: the columns after the first c must be blank
unfoldable pub blank_after : ℕ → Line → ℕ → Verdict (Unit {0})
blank_after num l c = right_to 26 num l (blank_to c l)

-- a blank line: its blank columns reach its end
abbrev pub blank_line : Line → Bool
blank_line l = leb (length l) (blank_to 0 l)

-- the first column of the field with k fields before it
abbrev pub column_of : ℕ → ℕ
column_of k = columns_of_fields k + 1

-- row 22: "bad number field: line, field's first column"
abbrev pub word_in : ℕ → ℕ → Option ℕ → Verdict ℕ
word_in num k (Some w) = passed w
word_in num k None = refused (answer 22 num (column_of k) 0)

-- the number in the field with k fields before it
unfoldable pub number : ℕ → Line → ℕ → Verdict ℕ
number num l k = word_in num k (read_field (columns 6 l (columns_of_fields k)))

-- "fields by 22": the numbers in m fields from there on
unfoldable pub field_numbers : ℕ → Line → ℕ → ℕ → Verdict (List ℕ)
field_numbers num l k zero = passed []
field_numbers num l k (suc m) = onward (number num l k) (λ w. onward (field_numbers num l (suc k) m) (λ ws. passed (w ∷ ws)))

-- that field is blank: the blank columns behind those k fields reach its last one, or the line's end
abbrev pub blank_field : Line → ℕ → Bool
blank_field l k = leb (min (columns_of_fields k + 6) (length l)) (blank_to (columns_of_fields k) l)

-- "there blank means 0, and a value other than 0 is refused"
unfoldable pub zero_field : ℕ → Line → ℕ → Verdict (Unit {0})
zero_field num l k =
    if blank_field l k then passed tt
    else onward (number num l k) (λ w. if eqb w 0 then passed tt else refused (answer 26 num (column_of k) 0))

-- m such fields from there on
unfoldable pub zero_fields : ℕ → Line → ℕ → ℕ → Verdict (Unit {0})
zero_fields num l k zero = passed tt
zero_fields num l k (suc m) = onward (zero_field num l k) (λ _. zero_fields num l (suc k) m)
