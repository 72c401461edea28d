-- Document 01, "Read form" and "Order for text": reading a text over the list of its lines.
use Rattle.std.specs.Prelude.{ℕ, suc, ◌+◌, List, [], ◌∷◌, ◌++◌, eqb, length}
use Rattle.std.specs.Prelude.{if◌then◌else◌}
use Rattle.units.specs.Units.{columns_of_fields, Line}
use Rattle.units.specs.Answers.{answer, Verdict, passed, refused, onward}
use Rattle.words.specs.Words.{words_of}
use Rattle.field.specs.Reading.{columns}
use Rattle.read_columns.specs.Columns.{plain_line, blank_after, blank_line, field_numbers}
use Rattle.read_first_line.specs.FirstLine.{Shape, card, fields, Read, gives, first_line}

-- of a later line, after 25 and 20: "fields by 22, blank columns by 26"
unfoldable pub later_fields : ℕ → Line → ℕ → Verdict (List ℕ)
later_fields num l n = onward (field_numbers num l 0 n) (λ ws. onward (blank_after num l (columns_of_fields n)) (λ _. passed ws))

-- "Each card is one line of 80 columns", and 81 to 120 are blank; "Within a record a blank line is a blank card, or a Data line with bad fields"; "Blank lines may stand before, between and after records"
unfoldable pub in_state : ℕ → ℕ → List Shape → Line → Verdict Read
in_state num held (card ∷ rest) l = onward (blank_after num l 80) (λ _. gives (words_of (columns 80 l 0)) rest)
in_state num held (fields n ∷ rest) l = onward (later_fields num l n) (λ ws. gives ws rest)
in_state num held [] l = if blank_line l then gives [] [] else first_line num held l

-- a line, where `rest` is what is still to come: row 20 is tested first on every line
unfoldable pub read_line : ℕ → ℕ → List Shape → Line → Verdict Read
read_line num held rest l = onward (plain_line num l) (λ _. in_state num held rest l)

-- row 25: "text ends inside a record: last line + 1"; "At the end 21": a record has 16 words or more, so where there are none there was no record
unfoldable pub at_end : ℕ → ℕ → List Shape → Verdict (List ℕ)
at_end num held (s ∷ rest) = refused (answer 25 num 1 0)
at_end num held [] = if eqb held 0 then refused (answer 21 0 0 0) else passed []

-- "Lines are numbered from 1 through the whole text": the record words that the lines from number num on give
unfoldable pub read_lines : ℕ → ℕ → List Shape → List Line → Verdict (List ℕ)
read_lines num held rest [] = at_end num held rest
read_lines num held rest (l ∷ ls) =
    onward (read_line num held rest l) (λ s.
    onward (read_lines (suc num) (held + length s.words) s.rest ls) (λ ws. passed (s.words ++ ws)))
