-- Document 01, "The binary block": what a good block is, with no order of tests in it.
use Rattle.std.specs.Prelude.{◌≡◌, List, ℕ, ◌≤◌, length}
use Rattle.words.specs.Words.{joined, All, most_record_words, block_from}
use Rattle.record.specs.Rules.{RecordOk}

-- the records' words end to end, length word and checksum around them, as bytes
abbrev pub block_of : List (List ℕ) → List ℕ
block_of rs = block_from (joined rs)

-- a good record that is no longer than a block's records may be
pub record BlockRecord (r : List ℕ) : Type 0 where
  pub ok : RecordOk r
  pub most : length r ≤ most_record_words

-- these bytes are a block of these records: "one or more records", "18 to 8,000 words and the buffer is exactly the block"
pub record IsBlock (b : List ℕ) (rs : List (List ℕ)) : Type 0 where
  pub bytes : b ≡ block_of rs
  pub each : All RecordOk rs
  pub some : 1 ≤ length rs
  pub most : length (joined rs) ≤ most_record_words
