-- What opening and starting a sheet promise.
use Rattle.std.specs.Prelude.{◌≡◌, List, ℕ, Result}
use Rattle.units.specs.Answers.{answered}
use Rattle.words.specs.Outcomes.{leaves}
use Rattle.sheet.specs.declared.Broken.{Broken}
use Rattle.sheet.specs.Cases.{opened_of}
use Rattle.sheet.specs.Sheets.{version1, opened, started}

-- `open`: how many amendments stand in these bytes
abbrev pub OpensSheet : List ℕ → Result ℕ Broken → Type 0
OpensSheet sheet r = opened_of r ≡ opened version1 sheet

-- `start`: "start an amendment sheet" in these bytes, and the bytes afterwards
abbrev pub StartsSheet : List ℕ → Result ℕ Broken → List ℕ → Type 0
StartsSheet sheet r after = leaves (answered (opened_of r)) after ≡ started version1 sheet
