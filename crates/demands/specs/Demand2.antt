-- Demand 2: a block is accepted exactly when its length word, checksum and records hold and the records fill it.
-- Block to lines to block is the identity, and accepted lines to block and back become the one standard set of lines.
use Rattle.std.specs.Prelude.{◌↔◌, ◌≡◌, List, ◌++◌, ℕ, ◌≤◌, length, take, drop}
use Rattle.units.specs.Answers.{answer, passed}
use Rattle.words.specs.Words.{joined, All, Below, most_record_words, block_from}
use Rattle.words.specs.Outcomes.{Written, leaves}
use Rattle.record.specs.Rules.{RecordOk}
use Rattle.block.specs.Judging.{judged, Accepted}
use Rattle.block.specs.Records.{records_of}
use Rattle.block.specs.Rules.{IsBlock}
use Rattle.write_lines.specs.Text.{text_of, to_lines}
use Rattle.read_records.specs.Reading.{read_text}
use Rattle.read_text.specs.Block.{judge_lines, write_block}

-- what is accepted is a good block, and every good block is accepted, with the number of its records
abbrev pub AcceptedExactly : Type 0
AcceptedExactly =
    (b : List ℕ) → Below 256 b →
    ((k : ℕ) → judged b ≡ passed k → IsBlock b (records_of b) × (length (records_of b) ≡ k))
    × ((rs : List (List ℕ)) → IsBlock b rs → judged b ≡ passed (length rs))

-- a block has at most one way of being cut into records
abbrev pub OneWay : Type 0
OneWay = (b : List ℕ) (rs ss : List (List ℕ)) → IsBlock b rs → IsBlock b ss → rs ≡ ss

-- ---- the round trips

-- the bytes that a conversion wrote
abbrev pub bytes_in : Written → List ℕ
bytes_in w = take w.answer.a w.out

-- "Success is n = 0 with a = ... bytes written": these bytes at the head of the output, and the others stay
abbrev pub wrote : List ℕ → List ℕ → Written
wrote bytes out = leaves (answer 0 (length bytes) 0 0) (bytes ++ drop (length bytes) out)

-- the lines of the block that the words of a text make
abbrev pub standard : List ℕ → List ℕ
standard ws = text_of (records_of (block_from ws))

-- the lines of good records are read as the records' words
abbrev pub LinesRead : Type 0
LinesRead = (rs : List (List ℕ)) → All RecordOk rs → 1 ≤ length rs → length (joined rs) ≤ most_record_words → read_text (text_of rs) ≡ passed (joined rs)

-- block to lines to block is the identity: judging the lines gives the block's size, and writing gives the block
abbrev pub BlockLinesBlock : Type 0
BlockLinesBlock =
    (b text out : List ℕ) → Below 256 b → Accepted b → length (text_of (records_of b)) ≤ length text → length b ≤ length out →
    let lines = to_lines b text in
    (lines ≡ wrote (text_of (records_of b)) text) × (judge_lines (bytes_in lines) ≡ passed (length b)) × (write_block (bytes_in lines) out ≡ wrote b out)

-- what an accepted text becomes is a good block, and the judge accepts it, with the number of its records
abbrev pub TextGivesBlock : Type 0
TextGivesBlock =
    (t ws : List ℕ) → read_text t ≡ passed ws →
    (rs : List (List ℕ)) × IsBlock (block_from ws) rs × (judged (block_from ws) ≡ passed (length rs))

-- so the bytes that writing says it has written are there, and are a block that the judge accepts
abbrev pub WrittenAccepted : Type 0
WrittenAccepted = (t out : List ℕ) → let w = write_block t out in w.answer.n ≡ 0 → (length (bytes_in w) ≡ w.answer.a) × Accepted (bytes_in w)

-- accepted lines to block and back become the standard lines; the size of both is judged as that of the block, and both give this block
abbrev pub LinesBlockLines : Type 0
LinesBlockLines =
    (t ws out text : List ℕ) → read_text t ≡ passed ws → length (block_from ws) ≤ length out → length (standard ws) ≤ length text →
    let block = write_block t out in
    let lines = to_lines (bytes_in block) text in
    (judge_lines t ≡ passed (length (block_from ws)))
    × (block ≡ wrote (block_from ws) out)
    × (lines ≡ wrote (standard ws) text)
    × (judge_lines (bytes_in lines) ≡ judge_lines t)
    × (write_block (bytes_in lines) out ≡ block)

-- the standard lines are accepted, and read as the same words
abbrev pub StandardRead : Type 0
StandardRead = (t ws : List ℕ) → read_text t ≡ passed ws → read_text (standard ws) ≡ passed ws

-- so they are their own standard lines
abbrev pub StandardStays : Type 0
StandardStays = (t ws : List ℕ) → read_text t ≡ passed ws → (vs : List ℕ) → read_text (standard ws) ≡ passed vs → standard vs ≡ standard ws

-- and there is one set of them for each block: two accepted texts have the same where they make the same block, and only there
abbrev pub OneStandard : Type 0
OneStandard =
    (t u ws vs : List ℕ) → read_text t ≡ passed ws → read_text u ≡ passed vs →
    (block_from ws ≡ block_from vs) ↔ (standard ws ≡ standard vs)
