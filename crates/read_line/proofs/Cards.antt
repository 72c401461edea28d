-- The 80 columns of a card.
use mathlib.Core.Path.{◌≡◌, ◌∙◌}
use mathlib.Core.List.{List, ◌++◌}
use Prim.Native.Nat.{ℕ, ◌-◌, ◌≤◌, ◌<◌}
use native.Mathlib.Omega.{arith}
use lib.ListN.{length, take, replicate}
use lib.Seq.{take_all}
use Rattle.words.specs.Words.{words_of, bytes_of, Below}
use Rattle.words.proofs.Laws.{bytes_words}
use Rattle.field.specs.Reading.{columns}
use Rattle.read_columns.proofs.Columns.{length-columns, columns_are, columns-all, columns_full}

-- a card's words are its 80 columns
pub card_columns : (l : List ℕ) → Below 256 l → bytes_of (words_of (columns 80 l 0)) ≡ columns 80 l 0
card_columns l h = bytes_words (columns 80 l 0) (let e = length-columns 80 l 0 in omega arith) (columns-all (λ b. b < 256) (omega arith) 80 l 0 h)

-- a line of 80 bytes or more has them all
pub long_card : (l : List ℕ) → 80 ≤ length l → columns 80 l 0 ≡ take 80 l
long_card l h = columns_full 80 l 0 (omega arith)

-- a shorter one is filled with blanks
pub short_card : (l : List ℕ) → length l < 80 → columns 80 l 0 ≡ l ++ replicate (80 - length l) 32
short_card l h = let e : 80 - (length l - 0) ≡ 80 - length l = omega arith in columns_are 80 l 0 ∙ rw (e, take_all 80 l (omega arith))
