-- What the step to a record and the search for one promise.
use Rattle.std.specs.Prelude.{◌≡◌, List, ℕ, Option}
use Rattle.words.specs.Words.{words_of}
use Rattle.block_steps.specs.declared.Place.{Place}
use Rattle.block_steps.specs.Steps.{step_of, find_of}

-- `step`: what stands behind `at` words of a block
abbrev pub StepsTo : List ℕ → ℕ → Option Place → Type 0
StepsTo block at r = r ≡ step_of (words_of block) at

-- `find`: record `number`; word 1 of the block stands before the first
abbrev pub FindsRecord : List ℕ → ℕ → Option Place → Type 0
FindsRecord block number r = r ≡ find_of (words_of block) 1 number
