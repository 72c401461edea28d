use Prim.Native.Nat.{ℕ, ◌+◌, ◌≤◌, ◌<◌}
use mathlib.Core.Path.{refl, ap}
use mathlib.Core.List.{List, [], ◌∷◌, ◌++◌}
use native.Mathlib.Omega.{arith}
use lib.ListN.{length, get_or, drop, set, drop_of_length-le}
use Rattle.words.specs.Writing.{Room}
use Rattle.words.proofs.Writing.{Going, fits, on, byte_put, done}
use Rattle.report.specs.Decimal.{decimal_of, spaced}
use Rattle.report.proofs.Lines.{spaced_turn}
use Rattle.report.proofs.write_spaced.Goals as goal

-- the next number's space has room, and is put in
module _ {o out : List ℕ} {at to : ℕ} (ns : List ℕ) (i : ℕ) (h : i < length ns) (going : Going o at (spaced ns) out to (spaced (drop i ns))) where
  space-fits : Room o at (spaced ns) → to + 1 ≤ length out
  space-fits room = fits going (32 ∷ []) _ (spaced_turn ns i h) room

  space-put : Going o at (spaced ns) (set out to 32) (to + 1) (decimal_of (get_or ns i 0) ++ spaced (drop (i + 1) ns))
  space-put = on going (32 ∷ []) _ (spaced_turn ns i h) (byte_put _ _ 32)

pub bounds-out-to : goal.bounds-out-to
bounds-out-to c = let l = c.loop-n in omega (arith, space-fits c.args.numbers.now l.n-index (omega arith) l.invariant c.requires)

pub overflow_add-to : goal.overflow_add-to
overflow_add-to c = let l = c.loop-n in omega (arith, space-fits c.args.numbers.now l.n-index (omega arith) l.invariant c.requires, l.invariant.kept)

pub write_number-to-requires : goal.write_number-to-requires
write_number-to-requires c = let l = c.loop-n in
    fits (space-put c.args.numbers.now l.n-index (omega arith) l.invariant) _ _ refl c.requires

pub loop-n-preserved : goal.loop-n-preserved
loop-n-preserved c = let l = c.loop-n in
    on (space-put c.args.numbers.now l.n-index (omega arith) l.invariant) _ _ refl c.write_number-to.ensures

pub returns : goal.returns
unfolding spaced
returns c = done c.loop-n.invariant (ap spaced (drop_of_length-le c.args.numbers.now {i = c.loop-n.n-index} (omega arith)))
