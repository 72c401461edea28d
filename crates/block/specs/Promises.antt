-- What the judge promises.
use Rattle.std.specs.Prelude.{◌≡◌, List, ℕ, Result}
use Rattle.block.specs.declared.Refusal.{Refusal}
use Rattle.block.specs.Cases.{judged_of}
use Rattle.block.specs.Judging.{judged}

-- `judge`: "Judge a binary block", of these bytes
abbrev pub Judges : List ℕ → Result ℕ Refusal → Type 0
Judges block r = judged_of r ≡ judged block
