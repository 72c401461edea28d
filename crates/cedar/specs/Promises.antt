-- What each C call promises: the number that it returns, and every byte of the buffers that it may write.
use Rattle.std.specs.Prelude.{◌≡◌, List, ℕ}
use Rattle.units.specs.Answers.{packed_of}
use Rattle.write_lines.specs.Text.{to_lines}
use Rattle.read_text.specs.Block.{write_block}
use Rattle.sheet.specs.Sheets.{Entry, version1, started}
use Rattle.amending.specs.Amending.{amend, undo}
use Rattle.repacking.specs.Repacking.{repack}
use Rattle.cedar.specs.Calls.{judge_answer, judge_lines_answer, prefix_answer, returned, converted, returned_both, amended_both}

-- `cedar_judge`
abbrev pub CedarJudges : List ℕ → ℕ → Type 0
CedarJudges block r = r ≡ packed_of (judge_answer block)

-- `cedar_prefix`
abbrev pub CedarFindsPrefix : ℕ → ℕ → Type 0
CedarFindsPrefix instrument r = r ≡ packed_of (prefix_answer instrument)

-- `cedar_to_lines`, and the text afterwards
abbrev pub CedarWritesLines : List ℕ → List ℕ → ℕ → List ℕ → Type 0
CedarWritesLines block text r after = returned r after ≡ converted (to_lines block text)

-- `cedar_judge_lines`
abbrev pub CedarJudgesLines : List ℕ → ℕ → Type 0
CedarJudgesLines text r = r ≡ packed_of (judge_lines_answer text)

-- `cedar_write_block`, and the block afterwards
abbrev pub CedarWritesBlock : List ℕ → List ℕ → ℕ → List ℕ → Type 0
CedarWritesBlock text block r after = returned r after ≡ converted (write_block text block)

-- `cedar_sheet_start`, and the sheet afterwards
abbrev pub CedarStartsSheet : List ℕ → ℕ → List ℕ → Type 0
CedarStartsSheet sheet r after = returned r after ≡ converted (started version1 sheet)

-- `cedar_amend`, and both buffers afterwards
abbrev pub CedarAmends : Entry → List ℕ → List ℕ → ℕ → List ℕ → List ℕ → Type 0
CedarAmends e block sheet r block-after sheet-after = returned_both r block-after sheet-after ≡ amended_both (amend version1 e block sheet)

-- `cedar_undo`, and both buffers afterwards
abbrev pub CedarUndoes : List ℕ → List ℕ → ℕ → List ℕ → List ℕ → Type 0
CedarUndoes block sheet r block-after sheet-after = returned_both r block-after sheet-after ≡ amended_both (undo version1 block sheet)

-- `cedar_repack`, and the output afterwards
abbrev pub CedarRepacks : List ℕ → List ℕ → ℕ → List ℕ → Type 0
CedarRepacks blocks out r after = returned r after ≡ converted (repack blocks out)
