-- Any two outcomes that a promise allows are the same: one statement for each public call, about the promise that its contract cites.
use Rattle.std.specs.Prelude.{◌≡◌, List, [], ℕ, length}
use Rattle.words.specs.Writing.{Put}
use Rattle.block.specs.Promises.{Judges}
use Rattle.block_steps.specs.Promises.{StepsTo, FindsRecord}
use Rattle.prefix.specs.Promises.{FindsPrefix}
use Rattle.write_lines.specs.Promises.{WritesLines}
use Rattle.read_text.specs.Promises.{JudgesLines, WritesBlock}
use Rattle.sheet.specs.Sheets.{Entry}
use Rattle.sheet.specs.Promises.{OpensSheet, StartsSheet}
use Rattle.amending.specs.Promises.{Amends, Undoes}
use Rattle.repacking.specs.Promises.{Repacks}
use Rattle.cedar.specs.Promises.{CedarJudges, CedarFindsPrefix, CedarWritesLines, CedarJudgesLines, CedarWritesBlock, CedarStartsSheet, CedarAmends, CedarUndoes, CedarRepacks}
use Rattle.listed.specs.Promises.{PrintsListing}
use Rattle.printed.specs.Promises.{PrintsLines, PrintsSize, PrintsBlock, PrintsBlocks}

-- a promise on an answer fixes it
abbrev pub Fixes : {R : Type 0} → (R → Type 0) → Type 0
Fixes {R} Promise = (r s : R) → Promise r → Promise s → r ≡ s

-- one on an answer and a buffer fixes both, the buffer in every byte
abbrev pub FixesOne : {R : Type 0} → (R → List ℕ → Type 0) → Type 0
FixesOne {R} Promise = (r s : R) (t u : List ℕ) → Promise r t → Promise s u → (r ≡ s) × (t ≡ u)

-- and one on an answer and two buffers all three
abbrev pub FixesTwo : {R : Type 0} → (R → List ℕ → List ℕ → Type 0) → Type 0
FixesTwo {R} Promise = (r s : R) (b c x y : List ℕ) → Promise r b x → Promise s c y → (r ≡ s) × (b ≡ c) × (x ≡ y)

-- these three say something: a promise that leaves the answer or a byte open does not fix it
abbrev pub OpenNotFixed : Type 0
OpenNotFixed =
    (Fixes (λ (r : ℕ). Unit {0}) → ⊥)
    × (FixesOne (λ (r : ℕ) (t : List ℕ). t ≡ []) → ⊥)
    × (FixesOne (λ (r : ℕ) (t : List ℕ). (r ≡ 0) × (length t ≡ 1)) → ⊥)
    × (FixesTwo (λ (r : ℕ) (b x : List ℕ). (b ≡ []) × (x ≡ [])) → ⊥)
    × (FixesTwo (λ (r : ℕ) (b x : List ℕ). (r ≡ 0) × (length b ≡ 1) × (x ≡ [])) → ⊥)
    × (FixesTwo (λ (r : ℕ) (b x : List ℕ). (r ≡ 0) × (b ≡ []) × (length x ≡ 1)) → ⊥)

-- ---- the calls

-- `block::judge`
abbrev pub JudgeAgrees : Type 0
JudgeAgrees = (block : List ℕ) → Fixes (Judges block)

-- `block_steps::step`
abbrev pub StepAgrees : Type 0
StepAgrees = (block : List ℕ) (at : ℕ) → Fixes (StepsTo block at)

-- `block_steps::find`
abbrev pub FindAgrees : Type 0
FindAgrees = (block : List ℕ) (number : ℕ) → Fixes (FindsRecord block number)

-- `prefix::prefix_of`
abbrev pub PrefixAgrees : Type 0
PrefixAgrees = (instrument : ℕ) → Fixes (FindsPrefix instrument)

-- `write_lines::to_lines`
abbrev pub LinesAgree : Type 0
LinesAgree = (block text : List ℕ) → FixesOne (WritesLines block text)

-- `read_text::judge_lines`
abbrev pub JudgeLinesAgrees : Type 0
JudgeLinesAgrees = (text : List ℕ) → Fixes (JudgesLines text)

-- `read_text::write_block`
abbrev pub BlockAgrees : Type 0
BlockAgrees = (text block : List ℕ) → FixesOne (WritesBlock text block)

-- `sheet::open`
abbrev pub OpenAgrees : Type 0
OpenAgrees = (sheet : List ℕ) → Fixes (OpensSheet sheet)

-- `sheet::start`
abbrev pub StartAgrees : Type 0
StartAgrees = (sheet : List ℕ) → FixesOne (StartsSheet sheet)

-- `amending::amend`
abbrev pub AmendAgrees : Type 0
AmendAgrees = (e : Entry) (block sheet : List ℕ) → FixesTwo (Amends e block sheet)

-- `amending::undo`
abbrev pub UndoAgrees : Type 0
UndoAgrees = (block sheet : List ℕ) → FixesTwo (Undoes block sheet)

-- `repacking::repack`
abbrev pub RepackAgrees : Type 0
RepackAgrees = (slice out : List ℕ) → FixesOne (Repacks slice out)

-- ---- the calls for C

-- `cedar_judge`
abbrev pub CedarJudgeAgrees : Type 0
CedarJudgeAgrees = (block : List ℕ) → Fixes (CedarJudges block)

-- `cedar_prefix`
abbrev pub CedarPrefixAgrees : Type 0
CedarPrefixAgrees = (instrument : ℕ) → Fixes (CedarFindsPrefix instrument)

-- `cedar_to_lines`
abbrev pub CedarLinesAgree : Type 0
CedarLinesAgree = (block text : List ℕ) → FixesOne (CedarWritesLines block text)

-- `cedar_judge_lines`
abbrev pub CedarJudgeLinesAgrees : Type 0
CedarJudgeLinesAgrees = (text : List ℕ) → Fixes (CedarJudgesLines text)

-- `cedar_write_block`
abbrev pub CedarBlockAgrees : Type 0
CedarBlockAgrees = (text block : List ℕ) → FixesOne (CedarWritesBlock text block)

-- `cedar_sheet_start`
abbrev pub CedarStartAgrees : Type 0
CedarStartAgrees = (sheet : List ℕ) → FixesOne (CedarStartsSheet sheet)

-- `cedar_amend`
abbrev pub CedarAmendAgrees : Type 0
CedarAmendAgrees = (e : Entry) (block sheet : List ℕ) → FixesTwo (CedarAmends e block sheet)

-- `cedar_undo`
abbrev pub CedarUndoAgrees : Type 0
CedarUndoAgrees = (block sheet : List ℕ) → FixesTwo (CedarUndoes block sheet)

-- `cedar_repack`
abbrev pub CedarRepackAgrees : Type 0
CedarRepackAgrees = (blocks out : List ℕ) → FixesOne (CedarRepacks blocks out)

-- ---- what the programs print

-- `listed::print_listing`
abbrev pub PrintedListingAgrees : Type 0
PrintedListingAgrees = (block out : List ℕ) → FixesOne (PrintsListing block out)

-- `printed::print_lines`
abbrev pub PrintedLinesAgree : Type 0
PrintedLinesAgree = (block out : List ℕ) → FixesOne (PrintsLines block out)

-- `printed::print_size`
abbrev pub PrintedSizeAgrees : Type 0
PrintedSizeAgrees = (text out : List ℕ) → FixesOne (PrintsSize text out)

-- `printed::print_block`
abbrev pub PrintedBlockAgrees : Type 0
PrintedBlockAgrees = (text out : List ℕ) → FixesOne (PrintsBlock text out)

-- `printed::print_blocks`
abbrev pub PrintedBlocksAgree : Type 0
PrintedBlocksAgree = (slice out : List ℕ) → FixesOne (PrintsBlocks slice out)

-- a writer that the crates share promises which text it puts at which place
abbrev pub PutAgrees : Type 0
PutAgrees = (before text : List ℕ) (at : ℕ) → FixesOne (λ (next : ℕ) (after : List ℕ). Put before at text after next)
