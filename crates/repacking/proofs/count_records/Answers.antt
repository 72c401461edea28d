use mathlib.Core.Path.{refl}
use Prim.Native.Nat.{◌≤◌}
use native.Mathlib.Omega.{arith}
use Rattle.words.specs.Words.{most_record_words}
use Rattle.words.proofs.Laws.{all_below}
use Rattle.block_steps.proofs.Turns.{loop_start, turn, loop_on, loop_end}
use Rattle.packing.specs.Current.{current_after}
use Rattle.packing.proofs.Filling.{room_at}
use Rattle.repacking.proofs.Counting.{counted}
use Rattle.repacking.proofs.count_records.Goals as goal

pub loop-whole-init : goal.loop-whole-init
loop-whole-init c = let b = c.args.block.now in
    loop_start b (all_below 256 b (λ i. omega (arith, c.type_inv.block i))) c.requires.0 c.records-whole-items.ensures.left c.into_iter-whole-iterator.ensures.into_iter_gives
    (record { same = refl; can = c.requires.1 })

pub with_record-to-requires : goal.with_record-to-requires
with_record-to-requires c =
    let t = turn c.loop-whole.invariant _ _ c.next.ensures.steps.0 c.in-Some.is in
    let n : c.count-k.result.0 ≤ most_record_words = omega (arith, c.count-k.ensures, t.good.most) in
    (rw c.room_for.ensures (omega (arith, (room_at c.loop-whole.to c.count-k.result.0 n).used)), n)

pub loop-whole-preserved : goal.loop-whole-preserved
loop-whole-preserved c = let t = turn c.loop-whole.invariant _ _ c.next.ensures.steps.0 c.in-Some.is in
    loop_on t (counted t.holds t.good c.count-k.ensures c.room_for.ensures c.with_record-to.ensures)

pub returns : goal.returns
unfolding current_after
returns c = (loop_end c.loop-whole.invariant _ _ c.next.ensures.steps.0 c.in-None.is).same
