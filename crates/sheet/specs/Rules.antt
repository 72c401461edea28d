-- Document 01, "The amendment sheet": what a sheet that keeps its layout is, with no order of tests in it.
use Rattle.std.specs.Prelude.{◌≡◌, List, ℕ, ◌≤◌, length}
use Rattle.words.specs.Words.{All, Below}
use Rattle.sheet.specs.Sheets.{Layout, Entry, sheet_of, entries_of}

-- "entries of four 16-bit numbers", or of as many as the layout says
pub record IsEntry (y : Layout) (e : Entry) : Type 0 where
  pub size : length e ≡ y.words
  pub numbers : Below 65536 e

-- these bytes are the sheet of these entries
pub record IsSheet (y : Layout) (s : List ℕ) (es : List Entry) : Type 0 where
  pub bytes : s ≡ sheet_of y es
  pub each : All (IsEntry y) es
  pub most : length es ≤ y.limit

-- a sheet that keeps its layout is the sheet of the entries that stand in it
abbrev pub KeepsLayout : Layout → List ℕ → Type 0
KeepsLayout y s = IsSheet y s (entries_of y s)

-- and they are `count`
pub record Holds (y : Layout) (s : List ℕ) (count : ℕ) : Type 0 where
  pub layout : KeepsLayout y s
  pub count_is : count ≡ length (entries_of y s)
