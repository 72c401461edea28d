-- Document 01, "The binary block": what a good record is, with no order of tests in it.
use Rattle.std.specs.Prelude.{◌≡◌, List, ℕ, ◌+◌, ◌*◌, ◌/◌, ◌%◌, ◌≤◌, length}
use Rattle.words.specs.Words.{word, words, All, Below}
use Rattle.counts.specs.Counts.{counts_of, words_needed}
use Rattle.counts.specs.Rules.{CountsOk}

-- "each from 32 to 126": both bytes of a card's word
pub record CardWord (w : ℕ) : Type 0 where
  pub high_least : 32 ≤ w / 256
  pub high_most : w / 256 ≤ 126
  pub low_least : 32 ≤ w % 256
  pub low_most : w % 256 ≤ 126

-- "LTOT is 40 times (1 + cards). Words 13 to 40 are zero"; a Header: "words 16 to 40 are zero"
pub record CardsOk (z : ℕ) (r : List ℕ) : Type 0 where
  pub cards : ℕ
  pub size : length r ≡ 40 * (1 + cards)
  pub zeros : All (λ w. w ≡ 0) (words r z 40)
  pub printed : All CardWord (words r 41 (length r))

-- "LTOT = LPROL + 2 JPAR + MPAR (NROW + 1)"
pub record DataOk (r : List ℕ) : Type 0 where
  pub counts : CountsOk (counts_of r)
  pub sum : length r ≡ words_needed (counts_of r)

-- "Catalogue, kind 2001", "Header, kind 3002", "Data, kind 1002"
pub data KindOk (r : List ℕ) : Type 0 where
  catalogue : word r 2 ≡ 2001 → CardsOk 13 r → KindOk r
  header : word r 2 ≡ 3002 → CardsOk 16 r → KindOk r
  data_record : word r 2 ≡ 1002 → DataOk r → KindOk r

-- "In every record word 1 is LTOT": it is all of the record, and "No words may follow"; "Words are 16 bits"
pub record RecordOk (r : List ℕ) : Type 0 where
  pub total : word r 1 ≡ length r
  pub kind : KindOk r
  pub sized : Below 65536 r
