-- Document 02, request 1: records packed into blocks.
use Rattle.std.specs.Prelude.{ℕ, ◌+◌, List, [], ◌∷◌, map, leb, length}
use Rattle.std.specs.Prelude.{if◌then◌else◌}
use Rattle.words.specs.Words.{joined, most_record_words}
use Rattle.block.specs.Rules.{block_of}

-- the records of a block
abbrev pub Group : Type 0
Group = List (List ℕ)

-- a record in front of the first group
abbrev pub onto : List ℕ → List Group → List Group
onto r [] = (r ∷ []) ∷ []
onto r (g ∷ gs) = (r ∷ g) ∷ gs

-- "A record goes into the current block if it fits, else into a new one": first the records that go into the current one, behind its `used` words, maybe none; then those of each new one
unfoldable pub packed : ℕ → List (List ℕ) → List Group
packed used [] = [] ∷ []
packed used (r ∷ rs) =
    if leb (used + length r) most_record_words then onto r (packed (used + length r) rs)
    else [] ∷ onto r (packed (length r) rs)

-- the records of each block, from the first on; "An empty slice gives no blocks"
unfoldable pub groups : List (List ℕ) → List Group
groups [] = []
groups (r ∷ rs) = packed 0 (r ∷ rs)

-- groups as blocks, one after the other
abbrev pub blocks_of : List Group → List ℕ
blocks_of gs = joined (map block_of gs)

-- "it ... keeps the records in their order and writes blocks again"
unfoldable pub repacked : List (List ℕ) → List ℕ
repacked rs = blocks_of (groups rs)
