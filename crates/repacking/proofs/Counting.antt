-- A loop that counts the records of a block, packed.
use mathlib.Core.Path.{◌≡◌}
use mathlib.Core.List.{List, ◌∷◌}
use Prim.Native.Nat.{ℕ, ◌≤◌}
use native.Mathlib.Omega.{arith}
use lib.ListN.{length, length-append}
use Rattle.words.specs.Words.{joined}
use Rattle.block.specs.Rules.{BlockRecord}
use Rattle.block.proofs.Exact.{ok_long}
use Rattle.packing.specs.declared.Current.{Current}
use Rattle.packing.specs.Current.{room_for, with_record, current_after}
use Rattle.packing.proofs.Filling.{RoomAt, room_at}
use Rattle.repacking.specs.Between.{Countable}

-- it has counted some of the records: with the others it comes to the same block
pub record Counting (p₀ p : Current) (all rest : List (List ℕ)) : Type 0 where
  pub same : current_after p rest ≡ current_after p₀ all
  pub can : Countable p rest

module _ {p₀ p : Current} {all rs : List (List ℕ)} {r : List ℕ} (c : Counting p₀ p all (r ∷ rs)) (good : BlockRecord r) where
  long : 16 ≤ length r
  long = ok_long r good.ok

  here : RoomAt p (length r) (room_for p (length r))
  here = room_at p (length r) good.most

  counted_on : Counting p₀ (with_record (room_for p (length r)) (length r)) all rs
  unfolding current_after joined
  counted_on =
      record {
        same = c.same;
        can = record { used = here.used; bytes = omega (arith, here.most, c.can.bytes, long, length-append r (joined rs)) };
      }

  -- as the code finds it
  pub counted : {n : ℕ} {room next : Current} → n ≡ length r → room ≡ room_for p n → next ≡ with_record room n → Counting p₀ next all rs
  counted size is past = rw (past, is, size) counted_on
