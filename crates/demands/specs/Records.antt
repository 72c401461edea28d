-- Stepping through an accepted block, finding a record and a walk over the records, against the list of the block's records.
use Rattle.std.specs.Prelude.{◌≡◌, List, ◌∷◌, ◌++◌, ℕ, ◌+◌, length, drop, None}
use Rattle.words.specs.Words.{words_of, joined, Below}
use Rattle.block.specs.Judging.{Accepted}
use Rattle.block.specs.Records.{records_of}
use Rattle.block_steps.specs.Steps.{place_of, step_of, find_of, placed}
use Rattle.block_steps.specs.Standing.{records_from}

-- behind word 1 and the records before it, a step finds each record, with its size
abbrev pub StepFinds : Type 0
StepFinds =
    (b : List ℕ) → Below 256 b → Accepted b → (before after : List (List ℕ)) (r : List ℕ) → records_of b ≡ before ++ r ∷ after →
    step_of (words_of b) (1 + length (joined before)) ≡ place_of (1 + length (joined before)) (length r)

-- and behind the last record, no more
abbrev pub StepEnds : Type 0
StepEnds = (b : List ℕ) → Below 256 b → Accepted b → step_of (words_of b) (1 + length (joined (records_of b))) ≡ None

-- record n is found at its place in the list
abbrev pub FindFinds : Type 0
FindFinds = (b : List ℕ) → Below 256 b → Accepted b → (n : ℕ) → find_of (words_of b) 1 n ≡ placed (records_of b) 1 n

-- a walk has the block's records left when it begins
abbrev pub WalkLends : Type 0
WalkLends = (b : List ℕ) → Below 256 b → Accepted b → records_from 0 (drop 1 (words_of b)) ≡ records_of b
