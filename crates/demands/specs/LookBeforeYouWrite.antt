-- Document 02, request 2, "Look before you write": what judging a text says of writing its block, and what writing says of judging.
-- "The second judges again": what it leaves is a function of the text and the block lent to it. So nothing here asks whether somebody has looked before.
use Rattle.std.specs.Prelude.{◌↔◌, ◌⊎◌, ◌≡◌, List, ℕ, ◌%◌, ◌≤◌, ◌<◌, length, get_or, take, drop}
use Rattle.units.specs.declared.Answer.{Answer}
use Rattle.units.specs.Answers.{answer, passed, refused, taken_apart}
use Rattle.words.specs.Words.{All, Below}
use Rattle.words.specs.Outcomes.{leaves}
use Rattle.block.specs.Judging.{Accepted}
use Rattle.block.specs.Rules.{block_of}
use Rattle.read_records.specs.Reading.{read_text}
use Rattle.read_text.specs.Block.{judge_lines, write_block}
use Rattle.cedar.specs.Promises.{CedarJudgesLines, CedarWritesBlock}
use Rattle.demands.specs.Demand1.{Tells}
use Rattle.demands.specs.Demand2.{wrote}
use Rattle.demands.specs.Texts.{IsText}

-- "one call judges the text": it accepts exactly the texts of good records, with the size of their block, and refuses what the reading refuses
abbrev pub JudgedExactly : Type 0
JudgedExactly =
    (t : List ℕ) →
    ((size : ℕ) → (judge_lines t ≡ passed size) ↔ ((rs : List (List ℕ)) × IsText t rs × (size ≡ length (block_of rs))))
    × ((r : Answer) → (judge_lines t ≡ refused r) ↔ (read_text t ≡ refused r))

-- what was judged holds for writing: into that many bytes or more these are written, into fewer 29 asks for them, and a refusal is the refusal of writing
abbrev pub JudgedHolds : List ℕ → List ℕ → Type 0
JudgedHolds t out =
    ((size : ℕ) → judge_lines t ≡ passed size → size ≤ length out → (block : List ℕ) × (length block ≡ size) × (write_block t out ≡ wrote block out))
    × ((size : ℕ) → judge_lines t ≡ passed size → length out < size → write_block t out ≡ leaves (answer 29 size 0 0) out)
    × ((r : Answer) → judge_lines t ≡ refused r → write_block t out ≡ leaves r out)

-- and what writing answers was judged: the bytes written or needed, or the refusal
abbrev pub WrittenHolds : List ℕ → List ℕ → Type 0
WrittenHolds t out =
    let r = (write_block t out).answer in
    ((r.n ≡ 0) ⊎ (r.n ≡ 29) → judge_lines t ≡ passed r.a) × ((r.n ≡ 0 → ⊥) → (r.n ≡ 29 → ⊥) → judge_lines t ≡ refused r)

-- "one call judges the text and gives the block's size in bytes, a second writes", both ways
abbrev pub JudgedThenWritten : Type 0
JudgedThenWritten = (t out : List ℕ) → JudgedHolds t out × WrittenHolds t out

-- a size that is judged is a block's, 18 to 8,000 words; so a buffer of 16,000 bytes has room for any
abbrev pub SizeOfABlock : Type 0
SizeOfABlock = (t : List ℕ) (size : ℕ) → judge_lines t ≡ passed size → (36 ≤ size) × (size ≤ 16000) × (size % 2 ≡ 0)

-- for C: writing returns the number that judging returned, and so many bytes that are a good block, and the others stay; or 29 with the same size where the block is shorter than that. What is refused leaves the block
abbrev pub CedarJudgedThenWritten : Type 0
CedarJudgedThenWritten =
    (text block after : List ℕ) (judged written : ℕ) → CedarJudgesLines text judged → CedarWritesBlock text block written after →
    let size = (taken_apart judged).a in
    ((taken_apart judged).n ≡ 0 → size ≤ length block → (written ≡ judged) × Accepted (take size after) × (drop size after ≡ drop size block))
    × ((taken_apart judged).n ≡ 0 → length block < size → Tells written (answer 29 size 0 0) × (after ≡ block))
    × (((taken_apart judged).n ≡ 0 → ⊥) → (written ≡ judged) × (after ≡ block))

-- ---- `cedar check`, which takes a file as a block or as lines by its first six bytes

-- a control character other than TAB, LF and CR: no accepted text has one
pub data NotOfText (x : ℕ) : Type 0 where
  before_tab : x < 9 → NotOfText x
  after_lf : 11 ≤ x → x ≤ 12 → NotOfText x
  after_cr : 14 ≤ x → x ≤ 31 → NotOfText x

-- the fifth byte of an accepted block is one, and an accepted text has none: so each is taken for what it is, and nothing is both
abbrev pub TakenFor : Type 0
TakenFor =
    ((b : List ℕ) → Below 256 b → Accepted b → (5 ≤ length b) × NotOfText (get_or b 4 0))
    × ((t : List ℕ) (size : ℕ) → judge_lines t ≡ passed size → All (λ x. NotOfText x → ⊥) t)
