use Rattle.write_parts.specs.Laid.{fields_of}
use Rattle.words.specs.Words.{pair_words}
use Rattle.words.proofs.Writing.{Going, start, fits, on, byte_put, done}
use Rattle.words.specs.Writing.{Room, Put}
use lib.ListN.{length}
use native.Mathlib.Omega.{arith}
use mathlib.Core.List.{List, [], ◌∷◌, ◌++◌}
use mathlib.Core.Path.{refl}
use Prim.Native.Nat.{ℕ, ◌+◌, ◌≤◌}
use Rattle.write_parts.proofs.write_line.Goals as goal

-- the fields are in, and LF is left
module _ {o : List ℕ} {at : ℕ} {fields out : List ℕ} {to : ℕ} (p : Put o at fields out to) where
  going : Going o at (fields ++ (10 ∷ [])) out to (10 ∷ [])
  going = on start fields (10 ∷ []) refl p

  room : Room o at (fields ++ (10 ∷ [])) → to + 1 ≤ length out
  room h = fits going (10 ∷ []) [] refl h

pub write_fields-end-requires : goal.write_fields-end-requires
write_fields-end-requires c = let a = c.args in
    fits {o = a.out.now} start (fields_of (pair_words a.words.now)) (10 ∷ []) refl c.requires

pub bounds-out-end : goal.bounds-out-end
bounds-out-end c = omega (arith, room c.write_fields-end.ensures c.requires)

pub overflow_add-result : goal.overflow_add-result
overflow_add-result c = omega (arith, room c.write_fields-end.ensures c.requires, (going c.write_fields-end.ensures).kept)

pub returns : goal.returns
returns c = done (on (going c.write_fields-end.ensures) (10 ∷ []) [] refl (byte_put _ _ 10)) refl
