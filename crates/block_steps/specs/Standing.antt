-- The records that stand one after the other, on any words; and those that an iterator over a block has left.
use Rattle.std.specs.Prelude.{◌≡◌, ℕ, zero, suc, ◌+◌, ◌-◌, List, [], ◌∷◌, ◌||◌, ltb, eqb, length, take, drop, Option, Some, None, if◌then◌else◌}
use Rattle.units.specs.declared.Words.{Words}
use Rattle.words.specs.Words.{words_of, bytes_of}
use Rattle.block_steps.specs.declared.Walk.{Walk}
use denote.Ref.{Bor}

-- "In every record word 1 is LTOT": after `skip` words each record has as many words as its first says, up to one that says 0 or more than stand before the last word
unfoldable pub records_from : ℕ → List ℕ → List (List ℕ)
records_from skip [] = []
records_from zero (k ∷ ws) = if eqb k 0 || ltb (length ws) k then [] else take k (k ∷ ws) ∷ records_from (k - 1) ws
records_from (suc skip) (w ∷ ws) = records_from skip ws

-- what stands behind `at` words of a block is lent with the words up to its end, a part of the block that has just its words; or nothing stands there
abbrev pub Lends : List ℕ → ℕ → Option (Bor (List ℕ) × Words) → Type 0
Lends b at None = records_from 0 (drop at (words_of b)) ≡ []
Lends b at (Some (whole, end)) =
    (records_from 0 (drop at (words_of b)) ≡ words_of whole.now ∷ records_from 0 (drop end.0 (words_of b)))
    × (whole.now ≡ bytes_of (words_of whole.now)) × (end.0 ≡ at + length (words_of whole.now))

-- a walk goes over a block, and has come to the place behind `at` words of it
abbrev pub Stands : Walk → List ℕ → ℕ → Type 0
Stands it b at = (it.block.now ≡ b) × (it.at.0 ≡ at)

-- the records that are still to come
unfoldable pub records_left : Walk → List (List ℕ)
records_left it = records_from 0 (drop it.at.0 (words_of it.block.now))

-- the first of them is lent, a part of the block that has just its words; or none is left, now and later
abbrev pub LendsFirst : Walk → Option (Bor (List ℕ)) → Walk → Type 0
LendsFirst old None new = (records_left old ≡ []) × (records_left new ≡ [])
LendsFirst old (Some whole) new = (records_left old ≡ words_of whole.now ∷ records_left new) × (whole.now ≡ bytes_of (words_of whole.now))

-- the walk goes over the same block, and stands behind the record that is lent; where none is lent, where it stood
abbrev pub StandsBehind : Walk → Option (Bor (List ℕ)) → Walk → Type 0
StandsBehind old None new = Stands new old.block.now old.at.0
StandsBehind old (Some whole) new = Stands new old.block.now (old.at.0 + length (words_of whole.now))

-- what each step of a walk gives: both of these, of which the laws of Turns.antt ask for the first
abbrev pub LendsRecord : Walk → Option (Bor (List ℕ)) → Walk → Type 0
LendsRecord old lent new = LendsFirst old lent new × StandsBehind old lent new
