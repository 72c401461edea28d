-- Document 01, "The binary block" and "Answer numbers": judging the record that stands first in the rest of the record words.
use Rattle.std.specs.Prelude.{ℕ, ◌+◌, ◌%◌, ◌≤◌, ◌≡◌, List, Bool, not, ◌||◌, ltb, eqb, length}
use Rattle.std.specs.Prelude.{if◌then◌else◌}
use Rattle.units.specs.Answers.{answer, Verdict, passed, refused}
use Rattle.words.specs.Words.{word, words}
use Rattle.words.specs.Scans.{passing, some_fails, word_within, is_zero}
use Rattle.counts.specs.declared.Counts.{Counts}
use Rattle.counts.specs.Counts.{counts_of, words_needed, in_range}

-- "Each card is 80 bytes, each from 32 to 126"
abbrev pub card_word : ℕ → Bool
card_word = word_within 32 126

-- row 6: "LTOT under 40 or no multiple of 40 ..., or past the last record word"
unfoldable pub wrong_total : ℕ → ℕ → Bool
wrong_total total left = ltb total 40 || (not (eqb (total % 40) 0) || ltb left total)

-- row 6 does not hold: a total that is right, with no order of tests
pub record TotalRight (total left : ℕ) : Type 0 where
  pub least : 40 ≤ total
  pub whole : total % 40 ≡ 0
  pub room : total ≤ left

-- a Catalogue (z is 13) or a Header (z is 16), record n, of `total` words, in the order 7, 8: the "first such word", the "word of the first such byte"
unfoldable pub judge_content : ℕ → ℕ → ℕ → List ℕ → Verdict ℕ
judge_content n z total rest =
    let front = words rest z 40 in
    let cards = words rest 41 total in
    if some_fails is_zero front then refused (answer 7 n (z + passing is_zero front) 0)
    else if some_fails card_word cards then refused (answer 8 n (41 + passing card_word cards) 0)
    else passed total

-- the order 6, 7, 8: how many words it has
unfoldable pub judge_cards : ℕ → ℕ → List ℕ → Verdict ℕ
judge_cards n z rest =
    if wrong_total (word rest 1) (length rest) then refused (answer 6 n 1 0)
    else judge_content n z (word rest 1) rest

-- row 9: "Data counts or total wrong": "record, first of 13, 14, 15, 16, then 1"
unfoldable pub judge_counts : ℕ → ℕ → Counts → Verdict ℕ
judge_counts n total c =
    if ltb (in_range c) 4 then refused (answer 9 n (13 + in_range c) 0)
    else if not (eqb total (words_needed c)) then refused (answer 9 n 1 0)
    else passed total

-- row 6: "(Data: under 16), or past the last record word"
abbrev pub wrong_data_total : ℕ → ℕ → Bool
wrong_data_total total left = ltb total 16 || ltb left total

-- a Data record, in the order 6, 9
unfoldable pub judge_data : ℕ → List ℕ → Verdict ℕ
judge_data n rest =
    if wrong_data_total (word rest 1) (length rest) then refused (answer 6 n 1 0)
    else judge_counts n (word rest 1) (counts_of rest)

-- "then each record: 4, 5, 6, 7, 8, 9"
unfoldable pub judge_record : ℕ → List ℕ → Verdict ℕ
judge_record n rest =
    if ltb (length rest) 16 then refused (answer 4 n 1 0)
    else if eqb (word rest 2) 2001 then judge_cards n 13 rest
    else if eqb (word rest 2) 3002 then judge_cards n 16 rest
    else if eqb (word rest 2) 1002 then judge_data n rest
    else refused (answer 5 n 2 0)
