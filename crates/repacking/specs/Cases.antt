-- The papers' numbers for each case of what becomes of a slice of blocks.
use Rattle.std.specs.Prelude.{ℕ, ◌≡◌, ◌⊎◌, Result}
use Rattle.units.specs.declared.Bytes.{Bytes}
use Rattle.units.specs.declared.Answer.{Answer}
use Rattle.units.specs.declared.Unwritten.{Unwritten}
use Rattle.units.specs.Answers.{written_of}
use Rattle.block_slice.specs.Cases.{SliceRow, slice_refusal_of}
use Rattle.block_slice.specs.declared.SliceRefusal.{SliceRefusal}

-- the slice's rows, and "50 output too short, last of all"
abbrev pub RepackRow : ℕ → Type 0
RepackRow n = SliceRow n ⊎ (n ≡ 50)

-- the bytes written; the slice's refusal; row 50 with the bytes needed
abbrev pub repacked_of : Result Bytes (Unwritten SliceRefusal) → Answer
repacked_of = written_of 50 slice_refusal_of
