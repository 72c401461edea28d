-- The records of a block, as a list: each begins with the number of its words.
use Rattle.std.specs.Prelude.{ℕ, zero, suc, ◌-◌, List, [], ◌∷◌, take}
use Rattle.words.specs.Words.{words_of}
use Rattle.block.specs.Judging.{inner}

-- the record words cut where each LTOT says, after `skip` words
unfoldable pub cut : ℕ → List ℕ → List (List ℕ)
cut skip [] = []
cut zero (k ∷ ws) = take k (k ∷ ws) ∷ cut (k - 1) ws
cut (suc skip) (w ∷ ws) = cut skip ws

-- "Between them stand one or more records"
unfoldable pub records_of : List ℕ → List (List ℕ)
records_of b = cut 0 (inner (words_of b))
