-- The papers' numbers for each case of a slice's refusal.
use Rattle.std.specs.Prelude.{ℕ, ◌≤◌, ◌≡◌, ◌⊎◌, Result}
use Rattle.units.specs.declared.Bytes.{Bytes}
use Rattle.units.specs.declared.Answer.{Answer}
use Rattle.units.specs.Answers.{answer, Verdict, verdict_of}
use Rattle.block.specs.Cases.{refusal_of}
use Rattle.block_slice.specs.declared.SliceRefusal.{SliceRefusal}
use Rattle.block_slice.specs.declared.SliceRefusal.TheVariants.{Long, Cut, Block}

-- "52 ... first of all; then block by block 51 ... before the block's own refusals", of which 2 cannot be
abbrev pub SliceRow : ℕ → Type 0
SliceRow n = (n ≡ 1) ⊎ ((3 ≤ n) × (n ≤ 9)) ⊎ ((51 ≤ n) × (n ≤ 52))

-- row 52; row 51 with the block's number; the block's own
abbrev pub slice_refusal_of : SliceRefusal → Answer
slice_refusal_of Long = answer 52 0 0 0
slice_refusal_of (Cut number) = answer 51 number 0 0
slice_refusal_of (Block r) = refusal_of r

-- the bytes found, or the slice's refusal
abbrev pub measured_of : Result Bytes SliceRefusal → Verdict ℕ
measured_of = verdict_of (λ size. size.0) slice_refusal_of
