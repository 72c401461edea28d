-- Document 01, "The lines": what is promised of the text of a block.
use Rattle.std.specs.Prelude.{◌≡◌, ◌⊎◌, List, [], ◌∷◌, ◌++◌, ℕ, ◌+◌, ◌≤◌, ◌<◌, length, get_or, set, replicate}
use Rattle.std.proofs.Math.Seq.{slice}
use Rattle.words.specs.Words.{word, All, Below}
use Rattle.record.specs.Lines.{line_count}
use Rattle.record.specs.Rules.{RecordOk}
use Rattle.block.specs.Judging.{Accepted}
use Rattle.block.specs.Records.{records_of}
use Rattle.block.specs.Rules.{block_of}
use Rattle.field.specs.Writing.{field_of}
use Rattle.write_lines.specs.Lines.{lines_of}
use Rattle.write_lines.specs.Text.{text_of}
use Rattle.write_lines.specs.Columns.{columns_before}

-- "Field 1 is the record's line count": the lines are as many as the counts say
abbrev pub LineCount : Type 0
LineCount = (r : List ℕ) → RecordOk r → length (lines_of r) ≡ line_count r

-- no line is longer than the 120 columns that a line is read with
abbrev pub LineWidth : Type 0
LineWidth = (r : List ℕ) → RecordOk r → All (λ l. length l ≤ 120) (lines_of r)

-- "It is never longer than 55,971 bytes"
abbrev pub TextBound : Type 0
TextBound = (b : List ℕ) → Below 256 b → Accepted b → length (text_of (records_of b)) ≤ 55971

-- "reached by LPROL 16, JPAR 0, MPAR 1, NROW 7,981"
unfoldable pub longest : List ℕ
longest = 7998 ∷ 1002 ∷ replicate 10 0 ++ (16 ∷ 0 ∷ 1 ∷ 7981 ∷ replicate 7982 0)

-- a block of that record alone is accepted, and its text has as many bytes
abbrev pub TextReached : Type 0
TextReached = let b = block_of (longest ∷ []) in Accepted b × (length (text_of (records_of b)) ≡ 55971)

-- ---- a word and its six columns

-- "A number field is six columns": those of the text with `at` bytes before them are there, and show this word
pub record Shows (text : List ℕ) (at w : ℕ) : Type 0 where
  pub inside : at + 6 ≤ length text
  pub columns : slice at (at + 6) text ≡ field_of w

-- a byte that is none of the six with `at` bytes before them
abbrev pub Outside : ℕ → ℕ → Type 0
Outside i at = (i < at) ⊎ (at + 6 ≤ i)

-- two texts, equally long, with the same bytes at all places of this kind
pub record SameAt (Here : ℕ → Type 0) (text first : List ℕ) : Type 0 where
  pub size : length text ≡ length first
  pub bytes : (i : ℕ) → Here i → get_or text i 0 ≡ get_or first i 0

-- the six columns of a word of a Data record behind its counts show that word
abbrev pub WordStands : Type 0
WordStands =
    (before after : List (List ℕ)) (r : List ℕ) → RecordOk r → word r 2 ≡ 1002 → (j : ℕ) → 16 ≤ j → j < length r →
    Shows (text_of (before ++ r ∷ after)) (length (text_of before) + columns_before r j) (get_or r j 0)

-- where it is changed, they show the new word, and the text differs in them only
abbrev pub SixColumns : Type 0
SixColumns =
    (before after : List (List ℕ)) (r : List ℕ) → RecordOk r → word r 2 ≡ 1002 → (j v : ℕ) → 16 ≤ j → j < length r →
    let first = text_of (before ++ r ∷ after) in let text = text_of (before ++ set r j v ∷ after) in
    let at = length (text_of before) + columns_before r j in
    Shows text at v × SameAt (λ i. Outside i at) text first
