-- Document 01, "The amendment sheet": a sheet that keeps its layout and the list of its entries determine each other.
use Rattle.std.specs.Prelude.{◌≡◌, List, ℕ, length}
use Rattle.units.specs.Answers.{passed}
use Rattle.words.specs.Words.{Below}
use Rattle.sheet.specs.Sheets.{Layout, Entry, entries_of, opened}
use Rattle.sheet.specs.Rules.{IsSheet}

-- what row 40 lets pass is the sheet of its entries, with their count; and the sheet of any entries passes, with just these entries
abbrev pub SheetsExactly : Type 0
SheetsExactly =
    (y : Layout) (s : List ℕ) → Below 256 s →
    ((k : ℕ) → opened y s ≡ passed k → IsSheet y s (entries_of y s) × (length (entries_of y s) ≡ k))
    × ((es : List Entry) → IsSheet y s es → (opened y s ≡ passed (length es)) × (entries_of y s ≡ es))

-- so no two lists of entries have one sheet
abbrev pub OneSheet : Type 0
OneSheet = (y : Layout) (s : List ℕ) (es fs : List Entry) → IsSheet y s es → IsSheet y s fs → es ≡ fs
