-- Document 01, "Read form" and "Order for text": a record's first line, and what it says is to come.
use Rattle.std.specs.Prelude.{ℕ, ◌+◌, ◌-◌, min, List, ◌∷◌, ◌++◌, map, not, ◌||◌, ltb, eqb, length, drop, replicate}
use Rattle.std.specs.Prelude.{if◌then◌else◌}
use Rattle.units.specs.Units.{Line, words_of_cards, columns_of_fields}
use Rattle.units.specs.Answers.{answer, Verdict, passed, refused, onward}
use Rattle.words.specs.Words.{word, most_record_words}
use Rattle.counts.specs.declared.Counts.{Counts}
use Rattle.counts.specs.Counts.{counts_of, words_needed, lines_needed, in_range}
use Rattle.line_plan.specs.Plan.{plan}
use Rattle.read_columns.specs.Columns.{blank_after, column_of, field_numbers, zero_fields}

-- a line still to come of a record: a card, or n number fields
pub data Shape : Type 0 where
  card : Shape
  fields : ℕ → Shape

-- what an accepted line gives: its words, and the lines of its record still to come
pub record Read : Type 0 where
  pub words : List ℕ
  pub rest : List Shape

-- a line that is accepted
abbrev pub gives : List ℕ → List Shape → Verdict Read
gives ws rest = passed (record { words = ws; rest = rest })

-- ---- its fields

-- what they say: a Catalogue or a Header of this kind, or a Data record, with the numbers before the fields that must be zero or blank
pub data Head : Type 0 where
  cards : ℕ → List ℕ → Head
  counts : List ℕ → Head

-- "the further fields its kind always has": a Catalogue's 13 to 20 are blank or 0
unfoldable pub catalogue_fields : ℕ → Line → List ℕ → Verdict Head
catalogue_fields num l first = onward (zero_fields num l 12 8) (λ _. passed (cards 2001 first))

-- a Header's 13 to 15 are free, and its 16 to 20 blank or 0
unfoldable pub header_fields : ℕ → Line → List ℕ → Verdict Head
header_fields num l first = onward (field_numbers num l 12 3) (λ more. onward (zero_fields num l 15 5) (λ _. passed (cards 3002 (first ++ more))))

-- row 27: "Data counts out of range: line, first column of the first such field"
unfoldable pub counts_in : ℕ → List ℕ → Verdict (List ℕ)
counts_in num r =
    let right = in_range (counts_of r) in
    if ltb right 4 then refused (answer 27 num (column_of (12 + right)) 0) else passed r

-- "Data: 13 to 16", then 27
unfoldable pub count_fields : ℕ → Line → List ℕ → Verdict (List ℕ)
count_fields num l first = onward (field_numbers num l 12 4) (λ more. counts_in num (first ++ more))

-- "fields 17 on, then blank columns by 26"
unfoldable pub prologue_fields : ℕ → Line → List ℕ → Verdict Head
prologue_fields num l r =
    let used = min (word r 13) 20 in
    onward (field_numbers num l 16 (used - 16)) (λ more. onward (blank_after num l (columns_of_fields used)) (λ _. passed (counts (r ++ more))))

-- "Data: 27, fields 17 on, then blank columns by 26"
unfoldable pub data_fields : ℕ → Line → List ℕ → Verdict Head
data_fields num l first = onward (count_fields num l first) (λ r. prologue_fields num l r)

-- row 23: the value of field 2 is none of 2101, 3101, 1101
unfoldable pub kind_fields : ℕ → Line → List ℕ → Verdict Head
kind_fields num l first =
    if eqb (word first 2) 2101 then catalogue_fields num l first
    else if eqb (word first 2) 3101 then header_fields num l first
    else if eqb (word first 2) 1101 then data_fields num l first
    else refused (answer 23 num 7 0)

-- after 20, which `read_line` tests: "fields 1 to 12; 23; the further fields its kind always has"
unfoldable pub first_fields : ℕ → Line → Verdict Head
first_fields num l = onward (field_numbers num l 0 12) (λ first. kind_fields num l first)

-- ---- its counts, where `held` record words stand before it; `lines` is the stated line count

-- "Catalogue and Header give 24, then 28"
unfoldable pub cards_room : ℕ → ℕ → ℕ → Verdict (Unit {0})
cards_room num held lines =
    if ltb lines 1 || ltb 199 lines then refused (answer 24 num 1 0)
    else if ltb most_record_words (held + words_of_cards lines) then refused (answer 28 num 1 0)
    else passed tt

-- "Data gives 28, then 24"
unfoldable pub data_room : ℕ → ℕ → ℕ → Counts → Verdict (Unit {0})
data_room num held lines c =
    if ltb most_record_words (held + words_needed c) then refused (answer 28 num 1 0)
    else if not (eqb lines (lines_needed c)) then refused (answer 24 num 1 0)
    else passed tt

-- then a Catalogue or a Header gives 40 words, and its cards are to come
abbrev pub cards_given : ℕ → List ℕ → Verdict Read
cards_given kind ws = gives (words_of_cards (word ws 1) ∷ (kind ∷ drop 2 ws) ++ replicate (40 - length ws) 0) (replicate (word ws 1 - 1) card)

-- and a Data record the words of its fields, and the lines of its plan behind the first are to come
abbrev pub data_given : List ℕ → Verdict Read
data_given ws = gives (words_needed (counts_of ws) ∷ (1002 ∷ drop 2 ws)) (map fields (drop 1 (plan (counts_of ws))))

-- what the head of a record gives
abbrev pub head_line : ℕ → ℕ → Head → Verdict Read
head_line num held (cards kind ws) = onward (cards_room num held (word ws 1)) (λ _. cards_given kind ws)
head_line num held (counts ws) = onward (data_room num held (word ws 1) (counts_of ws)) (λ _. data_given ws)

-- its fields, then its counts
unfoldable pub first_line : ℕ → ℕ → Line → Verdict Read
first_line num held l = onward (first_fields num l) (λ h. head_line num held h)
