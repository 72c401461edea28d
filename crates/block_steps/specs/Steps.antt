-- One step from a record to the next, and record n, on any words; and the same on a list of records.
use Rattle.std.specs.Prelude.{ℕ, zero, suc, ◌+◌, ◌-◌, List, [], ◌∷◌, ◌||◌, ltb, eqb, length, get_or, Option, Some, None}
use Rattle.std.proofs.Math.Seq.{slice}
use Rattle.std.specs.Prelude.{if◌then◌else◌}
use Rattle.block_steps.specs.declared.Place.{Place}

-- a record with `at` words before it and `size` of its own
abbrev pub place_of : ℕ → ℕ → Option Place
place_of at size = Some (record { at = record { 0 = at }; size = record { 0 = size } })

-- the word there is LTOT; no more where it is 0 or runs past the last record word
unfoldable pub step_of : List ℕ → ℕ → Option Place
step_of ws at =
    if eqb (get_or ws at 0) 0 || ltb (length ws - 1 - at) (get_or ws at 0) then None
    else place_of at (get_or ws at 0)

-- the words at a place: none where there is no more
abbrev pub words_at : List ℕ → Option Place → List ℕ
words_at ws (Some p) = slice p.at.0 (p.at.0 + p.size.0) ws
words_at ws None = []

-- the record that stands behind `at` words: no words where none does
abbrev pub record_at : List ℕ → ℕ → List ℕ
record_at ws at = words_at ws (step_of ws at)

-- on from a record to the place after it
abbrev pub past : Option Place → (ℕ → Option Place) → Option Place
past (Some p) f = f (p.at.0 + p.size.0)
past None f = None

-- the n-th record from a place on, counted from 1
unfoldable pub find_of : List ℕ → ℕ → ℕ → Option Place
find_of ws at zero = None
find_of ws at (suc n) = if eqb n 0 then step_of ws at else past (step_of ws at) (λ next. find_of ws next n)

-- the n-th of records that stand one after the other from a place on
unfoldable pub placed : List (List ℕ) → ℕ → ℕ → Option Place
placed [] at n = None
placed (r ∷ rs) at zero = None
placed (r ∷ rs) at (suc n) = if eqb n 0 then place_of at (length r) else placed rs (at + length r) n
