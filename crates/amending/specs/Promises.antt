-- What amending and undoing promise.
use Rattle.std.specs.Prelude.{◌≡◌, List, ℕ, Result}
use Rattle.units.specs.Answers.{answered}
use Rattle.sheet.specs.Sheets.{Entry, version1}
use Rattle.amending.specs.declared.Objection.{Objection}
use Rattle.amending.specs.Cases.{amended_of}
use Rattle.amending.specs.Amending.{buffers, amend, undo}

-- `amend`: "amend a value" of this block and its sheet, and both afterwards
abbrev pub Amends : Entry → List ℕ → List ℕ → Result ℕ Objection → List ℕ → List ℕ → Type 0
Amends e block sheet r block-after sheet-after = buffers (answered (amended_of r)) block-after sheet-after ≡ amend version1 e block sheet

-- `undo`: "undo the last amendment", and both afterwards
abbrev pub Undoes : List ℕ → List ℕ → Result ℕ Objection → List ℕ → List ℕ → Type 0
Undoes block sheet r block-after sheet-after = buffers (answered (amended_of r)) block-after sheet-after ≡ undo version1 block sheet
