-- What repacking promises.
use Rattle.std.specs.Prelude.{◌≡◌, List, ℕ, Result}
use Rattle.units.specs.declared.Bytes.{Bytes}
use Rattle.units.specs.declared.Unwritten.{Unwritten}
use Rattle.units.specs.Answers.{Packs}
use Rattle.words.specs.Outcomes.{leaves}
use Rattle.block_slice.specs.declared.SliceRefusal.{SliceRefusal}
use Rattle.repacking.specs.Cases.{repacked_of}
use Rattle.repacking.specs.Repacking.{repack}

-- `repack`: "it takes blocks one after the other ... and writes blocks again" into this output, and the output afterwards; the answer's numbers can be packed
pub record Repacks (slice out : List ℕ) (r : Result Bytes (Unwritten SliceRefusal)) (after : List ℕ) : Type 0 where
  pub outcome : leaves (repacked_of r) after ≡ repack slice out
  pub packs : Packs (repacked_of r)
