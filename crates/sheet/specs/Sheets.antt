-- Document 01, "The amendment sheet": the bytes of a sheet, for any layout.
use Rattle.std.specs.Prelude.{ℕ, zero, suc, ◌+◌, ◌-◌, ◌*◌, List, [], ◌∷◌, ◌++◌, Bool, not, ◌||◌, eqb, ltb, length, get_or, take, drop, replicate}
use Rattle.std.specs.Prelude.{if◌then◌else◌}
use Rattle.units.specs.Units.{bytes_of_words}
use Rattle.units.specs.Answers.{answer, Verdict, passed, refused}
use Rattle.words.specs.Words.{words_of, bytes_of, joined}
use Rattle.words.specs.Outcomes.{Written, leaves}
use Rattle.words.specs.Scans.{passing, is_zero}

-- a layout of sheets: its version, how many entries it has room for, how many words an entry has
pub record Layout : Type 0 where
  pub version : ℕ
  pub limit : ℕ
  pub words : ℕ

-- "a 16-bit version 1, a 16-bit count 0 to 64, ... then 64 entries of four 16-bit numbers"
abbrev pub version1 : Layout
version1 = record { version = 1; limit = 64; words = 4 }

-- an entry is its numbers: "record number, word number in the record, old value, new value"
abbrev pub Entry : Type 0
Entry = List ℕ

-- "520 bytes"
abbrev pub sheet_bytes : Layout → ℕ
sheet_bytes y = 8 + bytes_of_words (y.limit * y.words)

-- "numbers high byte first: the mark "AMD", a 16-bit version ..., a 16-bit count ..., one zero byte, then" the numbers of the entries
unfoldable pub sheet_with : ℕ → ℕ → List ℕ → List ℕ
sheet_with version count numbers = 65 ∷ 77 ∷ 68 ∷ bytes_of (version ∷ count ∷ []) ++ (0 ∷ bytes_of numbers)

-- "Entries past the count are zero"
unfoldable pub sheet_of : Layout → List Entry → List ℕ
sheet_of y es = sheet_with y.version (length es) (joined es ++ replicate ((y.limit - length es) * y.words) 0)

-- the 16-bit number behind i bytes
abbrev pub number_at : List ℕ → ℕ → ℕ
number_at s i = get_or s i 0 * 256 + get_or s (i + 1) 0

-- the count of a sheet
abbrev pub count_in : List ℕ → ℕ
count_in s = number_at s 5

-- the numbers of all its entries
abbrev pub numbers_in : List ℕ → List ℕ
numbers_in s = words_of (drop 8 s)

-- the first n entries, of `size` words each
unfoldable pub entries : ℕ → ℕ → List ℕ → List Entry
entries size zero ws = []
entries size (suc n) ws = take size ws ∷ entries size n (drop size ws)

-- the entries that stand in a sheet
unfoldable pub entries_of : Layout → List ℕ → List Entry
entries_of y s = entries y.words (count_in s) (numbers_in s)

-- all of them are zero
unfoldable pub all_zero : List ℕ → Bool
all_zero ws = eqb (passing is_zero ws) (length ws)

-- the mark is wrong
abbrev pub wrong_mark : List ℕ → Bool
wrong_mark s = not (eqb (get_or s 0 0) 65) || (not (eqb (get_or s 1 0) 77) || not (eqb (get_or s 2 0) 68))

-- row 40: "sheet not 520 bytes ..., or its mark, version, count, zero byte or an entry past the count is wrong"
unfoldable pub broken : Layout → List ℕ → Bool
broken y s =
    not (eqb (length s) (sheet_bytes y)) || (wrong_mark s || (not (eqb (number_at s 3) y.version) || (ltb y.limit (count_in s)
    || (not (eqb (get_or s 7 0) 0) || not (all_zero (drop (count_in s * y.words) (numbers_in s)))))))

-- how many amendments stand, or row 40
unfoldable pub opened : Layout → List ℕ → Verdict ℕ
opened y s = if broken y s then refused (answer 40 0 0 0) else passed (count_in s)

-- "Starting a sheet writes the mark, version 1 and zeros"; row 40: "sheet not 520 bytes (all that starting tests)"
unfoldable pub started : Layout → List ℕ → Written
started y s = if eqb (length s) (sheet_bytes y) then leaves (answer 0 0 0 0) (sheet_of y []) else leaves (answer 40 0 0 0) s
