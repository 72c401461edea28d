-- Document 02, request 2: lines to block, split: "one call judges the text and gives the block's size in bytes, a second writes".
use Rattle.std.specs.Prelude.{ℕ, List, length}
use Rattle.units.specs.Answers.{Verdict, passed, onward}
use Rattle.words.specs.Words.{block_from}
use Rattle.words.specs.Outcomes.{Written, written}
use Rattle.read_records.specs.Reading.{read_text}

-- the block of a text: its record words, length word and checksum around them, as bytes
abbrev pub block_in : List ℕ → Verdict (List ℕ)
block_in t = onward (read_text t) (λ ws. passed (block_from ws))

-- "one call judges the text and gives the block's size in bytes"
unfoldable pub judge_lines : List ℕ → Verdict ℕ
judge_lines t = onward (block_in t) (λ b. passed (length b))

-- "The second judges again", and at its end is document 01's "21, then 29"
unfoldable pub write_block : List ℕ → List ℕ → Written
write_block t out = written 29 out (block_in t)
