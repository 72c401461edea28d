-- The numbers of repacking's answer: listed, and with room in the packing.
use mathlib.Core.Logic.{◌⊎◌, inl, inr}
use mathlib.Core.Path.{◌≡◌, refl}
use mathlib.Core.List.{List}
use Prim.Native.Nat.{ℕ, ◌≤◌}
use native.Mathlib.Omega.{arith}
use lib.ListN.{length}
use Rattle.units.specs.Answers.{Verdict, passed, refused, onward, Packs}
use Rattle.words.specs.Words.{Below}
use Rattle.words.specs.Outcomes.{written}
use Rattle.words.proofs.Writing.{written_told}
use Rattle.block_slice.specs.Blocks.{blocks_in, records_in}
use Rattle.block_slice.specs.Rules.{IsSlice}
use Rattle.block_slice.proofs.Slices.{only_slices}
use Rattle.block_slice.proofs.Known.{KnownSlice, slice_known}
use Rattle.packing.specs.Packing.{repacked}
use Rattle.repacking.specs.Cases.{RepackRow}
use Rattle.repacking.specs.Repacking.{repack}
use Rattle.repacking.proofs.Made.{never_longer}

-- what an accepted slice is repacked to is no longer than it
pub repacked_bound : (slice : List ℕ) (bs : List (List ℕ)) → Below 256 slice → IsSlice slice bs → length (repacked (records_in bs)) ≤ length slice
repacked_bound slice bs bytes h = rw h.parts (never_longer bs h.each (rw h.parts at bytes))

-- the answer's numbers: with 0 and 50 at most 64,000 bytes
pub repack_told : (slice out : List ℕ) → Below 256 slice → (((repack slice out).answer.n ≡ 0) ⊎ RepackRow (repack slice out).answer.n) × Packs (repack slice out).answer
unfolding repack written
repack_told slice out bytes = by (blocks_in slice) refl (slice_known slice bytes)
  where
    listed : {n : ℕ} → (n ≡ 0) ⊎ (n ≡ 50) → (n ≡ 0) ⊎ RepackRow n
    listed (inl e) = inl e
    listed (inr e) = inr (inr e)

    by : (v : Verdict (List (List ℕ))) → blocks_in slice ≡ v → KnownSlice v → let r = (written 50 out (onward v (λ bs. passed (repacked (records_in bs))))).answer in ((r.n ≡ 0) ⊎ RepackRow r.n) × Packs r
    by (refused r) e t = (inr (inl t.listed), t.packs)
    by (passed bs) e t =
        let s = only_slices slice bs e in
        let w = written_told 50 out (repacked (records_in bs)) (omega arith) (omega (arith, s.size, repacked_bound slice bs bytes s)) in
        (listed w.0, w.1)
