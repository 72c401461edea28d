-- Document 01, "Examples": what the listing program prints.
use Rattle.std.specs.Prelude.{ℕ, ◌+◌, ◌-◌, List, [], ◌∷◌, ◌++◌, ltb, length}
use Rattle.std.specs.Prelude.{if◌then◌else◌}
use Rattle.words.specs.Words.{word}
use Rattle.record.specs.Lines.{line_count}
use Rattle.block.specs.Judging.{judged}
use Rattle.block.specs.Records.{records_of}
use Rattle.prefix.specs.declared.Letters.{Letters}
use Rattle.prefix.specs.Table.{prefix_of}
use Rattle.report.specs.Text.{line_of}
use Rattle.report.specs.Decimal.{decimal_of, spaced}
use Rattle.report.specs.Refusal.{or_refusal}

-- "Words are 16 bits, ... two's complement": the number that a word stands for
unfoldable pub signed_of : ℕ → List ℕ
signed_of w = if ltb w 32768 then decimal_of w else 45 ∷ decimal_of (65536 - w)

-- "the three letters' byte values"
abbrev pub letters_of : Letters → List ℕ
letters_of l = l.0 ∷ l.1 ∷ l.2 ∷ []

-- "number, position of its first word in the block, kind, words, lines, instrument, prefix; one space between; LF after": `before` words stand before it
unfoldable pub row_of : ℕ → ℕ → List ℕ → List ℕ
row_of number before r =
    line_of
    (decimal_of number
    ∷ decimal_of (before + 1)
    ∷ decimal_of (word r 2)
    ∷ decimal_of (length r)
    ∷ decimal_of (line_count r)
    ∷ signed_of (word r 3)
    ∷ letters_of (prefix_of (word r 3))
    ∷ [])

-- the first five of them, up to the count of lines
abbrev pub front_of : ℕ → ℕ → List ℕ → List ℕ
front_of number before r = decimal_of number ++ spaced ((before + 1) ∷ (word r 2 ∷ (length r ∷ (line_count r ∷ []))))

-- "It prints for each record"
unfoldable pub rows_of : ℕ → ℕ → List (List ℕ) → List ℕ
rows_of number before [] = []
rows_of number before (r ∷ rs) = row_of number before r ++ rows_of (number + 1) (before + length r) rs

-- "The listing program reads one block": the first record is number 1, and the block's length word stands before it
abbrev pub listing_of : List ℕ → List ℕ
listing_of block = or_refusal (λ _. rows_of 1 1 (records_of block)) (judged block)
