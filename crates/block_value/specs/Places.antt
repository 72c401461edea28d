-- Document 01, "The amendment sheet": the place that an entry names, in the records of a block.
use Rattle.std.specs.Prelude.{ℕ, ◌-◌, ◌≤◌, ◌≡◌, List, [], Bool, true, not, ◌&&◌, ◌||◌, eqb, ltb, length, get_or, set}
use Rattle.words.specs.Words.{word}
use Rattle.record.specs.Values.{is_value}
use Rattle.sheet.specs.Sheets.{Entry}

-- "four 16-bit numbers: record number, word number in the record, old value, new value"
abbrev pub record_number : Entry → ℕ
record_number e = word e 1

abbrev pub word_number : Entry → ℕ
word_number e = word e 2

abbrev pub old_value : Entry → ℕ
old_value e = word e 3

abbrev pub new_value : Entry → ℕ
new_value e = word e 4

-- record n of some records, counted from 1
abbrev pub record_in : List (List ℕ) → ℕ → List ℕ
record_in rs n = get_or rs (n - 1) []

-- row 41: "no such record number"
unfoldable pub no_record : List (List ℕ) → ℕ → Bool
no_record rs n = eqb n 0 || ltb (length rs) n

-- row 42: "that word is no value of a Data record"
abbrev pub no_value : List (List ℕ) → Entry → Bool
no_value rs e = not (is_value (record_in rs (record_number e)) (word_number e))

-- neither of these rows holds: the entry names a "value place"
pub record NamesValuePlace (rs : List (List ℕ)) (e : Entry) : Type 0 where
  pub least : 1 ≤ record_number e
  pub most : record_number e ≤ length rs
  pub value : is_value (record_in rs (record_number e)) (word_number e) ≡ true

-- row 43: "what stands there"
abbrev pub found : List (List ℕ) → Entry → ℕ
found rs e = word (record_in rs (record_number e)) (word_number e)

-- the records with this value at the place that the entry names
unfoldable pub with_value : List (List ℕ) → Entry → ℕ → List (List ℕ)
with_value rs e v = set rs (record_number e - 1) (set (record_in rs (record_number e)) (word_number e - 1) v)

-- row 46, the other way round: the entry names a value place, and its new value stands there
unfoldable pub stands : List (List ℕ) → Entry → Bool
stands rs e = not (no_record rs (record_number e)) && (not (no_value rs e) && eqb (new_value e) (found rs e))
