-- Demand 1: "Any bytes as a block, as lines or as an amendment sheet: each call ends with an accepted answer or one numbered
-- refusal, relies on no earlier look, and a refused call changes no byte of any lent buffer."
-- No call has a `requires`, and its outcome is a function of what it was lent: so it ends on any bytes, and no earlier look counts.
-- Here is what that leaves to say: which numbers an answer has, what a refusal leaves, and what a C caller reads. `Below 256` says that a lent slice has bytes.
use Rattle.std.specs.Prelude.{◌≡◌, ◌⊎◌, List, ℕ, ◌≤◌}
use Rattle.units.specs.declared.Answer.{Answer}
use Rattle.units.specs.Answers.{answer, Verdict, passed, refused, answered, packed_of, taken_apart}
use Rattle.words.specs.Words.{Below}
use Rattle.words.specs.Outcomes.{Written}
use Rattle.block.specs.Cases.{BlockRow}
use Rattle.block.specs.Judging.{judged}
use Rattle.write_lines.specs.Cases.{LinesRow}
use Rattle.write_lines.specs.Text.{to_lines}
use Rattle.read_records.specs.Cases.{TextRow}
use Rattle.read_text.specs.Cases.{WriteRow}
use Rattle.read_text.specs.Block.{judge_lines, write_block}
use Rattle.sheet.specs.Sheets.{Entry, version1, opened, started}
use Rattle.amending.specs.Amending.{Outcome, amend, undo}
use Rattle.repacking.specs.Cases.{RepackRow}
use Rattle.repacking.specs.Repacking.{repack}
use Rattle.prefix.specs.Table.{prefix_of, answer_of}
use Rattle.cedar.specs.Promises.{CedarJudges, CedarFindsPrefix, CedarWritesLines, CedarJudgesLines, CedarWritesBlock, CedarStartsSheet, CedarAmends, CedarUndoes, CedarRepacks}

-- ---- the numbers of an answer

-- the four numbers that a C caller takes out of the one it was given
abbrev pub Unpacks : Answer → Type 0
Unpacks r = taken_apart (packed_of r) ≡ r

-- "Success is n = 0"; else n is one of these rows
abbrev pub Numbered : (ℕ → Type 0) → Answer → Type 0
Numbered Row r = ((r.n ≡ 0) ⊎ Row r.n) × Unpacks r

-- a judgement: what is refused has the number of one of these rows
abbrev pub Judgement : (ℕ → Type 0) → Verdict ℕ → Type 0
Judgement Row (passed a) = Unpacks (answer 0 a 0 0)
Judgement Row (refused r) = Row r.n × Unpacks r

-- what a call on one lent buffer leaves: "Every refusal leaves every buffer untouched"
abbrev pub Writes : (ℕ → Type 0) → List ℕ → Written → Type 0
Writes Row before w = Numbered Row w.answer × ((w.answer.n ≡ 0 → ⊥) → w.out ≡ before)

-- ---- the calls on one buffer

-- "Order for a block: 1, 2, 3, then each record: 4, 5, 6, 7, 8, 9"
abbrev pub JudgeAnswers : Type 0
JudgeAnswers = (block : List ℕ) → Below 256 block → Judgement BlockRow (judged block)

-- "To lines: the block, then 29"
abbrev pub LinesAnswers : Type 0
LinesAnswers = (block text : List ℕ) → Below 256 block → Writes LinesRow text (to_lines block text)

-- "Order for text: 30, then line by line ... At the end 21"; document 02, request 2: "Judging gives every text refusal but 29"
abbrev pub JudgeLinesAnswers : Type 0
JudgeLinesAnswers = (text : List ℕ) → Judgement TextRow (judge_lines text)

-- "writing gives all of them in 01's order": "then 29"
abbrev pub BlockAnswers : Type 0
BlockAnswers = (text block : List ℕ) → Writes WriteRow block (write_block text block)

-- document 02, request 1: "52 ... first of all; then block by block 51 ... before the block's own refusals"; "50 ... last of all"
abbrev pub RepackAnswers : Type 0
RepackAnswers = (slice out : List ℕ) → Below 256 slice → Writes RepackRow out (repack slice out)

-- "sheet not 520 bytes (all that starting tests), or its mark, version, count, zero byte or an entry past the count is wrong"
abbrev pub SheetRow : ℕ → Type 0
SheetRow n = n ≡ 40

abbrev pub OpenAnswers : Type 0
OpenAnswers = (sheet : List ℕ) → Below 256 sheet → Judgement SheetRow (opened version1 sheet)

abbrev pub StartAnswers : Type 0
StartAnswers = (sheet : List ℕ) → Writes SheetRow sheet (started version1 sheet)

-- "The prefix call always succeeds"
abbrev pub PrefixAnswers : Type 0
PrefixAnswers = (instrument : ℕ) → let r = answer_of (prefix_of instrument) in (r.n ≡ 0) × Unpacks r

-- ---- the calls on a block and its sheet

-- the block's rows or the call's own; "Every refusal leaves every buffer untouched"
abbrev pub BothAnswer : (ℕ → Type 0) → List ℕ → List ℕ → Outcome → Type 0
BothAnswer Own block sheet o =
    Numbered (λ n. BlockRow n ⊎ Own n) o.answer × ((o.answer.n ≡ 0 → ⊥) → (o.block ≡ block) × (o.sheet ≡ sheet))

-- "Amend: block, 40, 44, 41, 42, 43"
abbrev pub AmendRow : ℕ → Type 0
AmendRow n = (40 ≤ n) × (n ≤ 44)

abbrev pub AmendAnswers : Type 0
AmendAnswers = (e : Entry) (block sheet : List ℕ) → Below 256 block → Below 256 sheet → BothAnswer AmendRow block sheet (amend version1 e block sheet)

-- "Undo: block, 40, 45, 46"
abbrev pub UndoRow : ℕ → Type 0
UndoRow n = (n ≡ 40) ⊎ ((45 ≤ n) × (n ≤ 46))

abbrev pub UndoAnswers : Type 0
UndoAnswers = (block sheet : List ℕ) → Below 256 block → Below 256 sheet → BothAnswer UndoRow block sheet (undo version1 block sheet)

-- ---- the calls for C: the number returned, taken apart, is the definition's answer, and the buffers are the definition's

-- "A C call returns them as one unsigned 64-bit number", which a caller takes apart
abbrev pub Tells : ℕ → Answer → Type 0
Tells number r = taken_apart number ≡ r

-- `cedar_judge`
abbrev pub CedarJudgeTells : Type 0
CedarJudgeTells = (block : List ℕ) (r : ℕ) → Below 256 block → CedarJudges block r → Tells r (answered (judged block))

-- `cedar_prefix`
abbrev pub CedarPrefixTells : Type 0
CedarPrefixTells = (instrument r : ℕ) → CedarFindsPrefix instrument r → Tells r (answer_of (prefix_of instrument))

-- the four numbers, and every byte of the output
abbrev pub TellsWritten : Written → ℕ → List ℕ → Type 0
TellsWritten w r after = Tells r w.answer × (after ≡ w.out)

-- `cedar_to_lines`
abbrev pub CedarLinesTell : Type 0
CedarLinesTell = (block text after : List ℕ) (r : ℕ) → Below 256 block → CedarWritesLines block text r after → TellsWritten (to_lines block text) r after

-- `cedar_judge_lines`
abbrev pub CedarJudgeLinesTells : Type 0
CedarJudgeLinesTells = (text : List ℕ) (r : ℕ) → CedarJudgesLines text r → Tells r (answered (judge_lines text))

-- `cedar_write_block`
abbrev pub CedarBlockTells : Type 0
CedarBlockTells = (text block after : List ℕ) (r : ℕ) → CedarWritesBlock text block r after → TellsWritten (write_block text block) r after

-- `cedar_sheet_start`
abbrev pub CedarStartTells : Type 0
CedarStartTells = (sheet after : List ℕ) (r : ℕ) → CedarStartsSheet sheet r after → TellsWritten (started version1 sheet) r after

-- `cedar_repack`
abbrev pub CedarRepackTells : Type 0
CedarRepackTells = (blocks out after : List ℕ) (r : ℕ) → Below 256 blocks → CedarRepacks blocks out r after → TellsWritten (repack blocks out) r after

-- the four numbers, and every byte of block and sheet
abbrev pub TellsBoth : Outcome → ℕ → List ℕ → List ℕ → Type 0
TellsBoth o r block sheet = Tells r o.answer × (block ≡ o.block) × (sheet ≡ o.sheet)

-- `cedar_amend`
abbrev pub CedarAmendTells : Type 0
CedarAmendTells =
    (e : Entry) (block sheet b s : List ℕ) (r : ℕ) → Below 256 block → Below 256 sheet → CedarAmends e block sheet r b s →
    TellsBoth (amend version1 e block sheet) r b s

-- `cedar_undo`
abbrev pub CedarUndoTells : Type 0
CedarUndoTells =
    (block sheet b s : List ℕ) (r : ℕ) → Below 256 block → Below 256 sheet → CedarUndoes block sheet r b s →
    TellsBoth (undo version1 block sheet) r b s
