use native.Mathlib.Omega.{arith}
use Rattle.words.proofs.Laws.{all_below}
use Rattle.block_steps.proofs.Turns.{loop_start, turn, loop_on, loop_end}
use Rattle.write_lines.specs.Text.{text_of}
use Rattle.write_lines.proofs.Sizes.{counted, text_bound}
use Rattle.write_lines.proofs.text_size.Goals as goal

pub loop-whole-init : goal.loop-whole-init
loop-whole-init c = let b = c.args.block.now in
    let below = all_below 256 b (λ i. omega (arith, c.type_inv.block i)) in
    loop_start b below c.requires c.records-whole-items.ensures.left c.into_iter-whole-iterator.ensures.into_iter_gives (record { total = omega arith; most = text_bound b below c.requires })

-- the first record that is left, and its bytes
pub record_size-bytes-requires : goal.record_size-bytes-requires
record_size-bytes-requires c = (turn c.loop-whole.invariant _ _ c.next.ensures.steps.0 c.in-Some.is).good

pub overflow_add-bytes : goal.overflow_add-bytes
overflow_add-bytes c = let t = turn c.loop-whole.invariant _ _ c.next.ensures.steps.0 c.in-Some.is in
    omega (arith, counted t.holds c.record_size-bytes.ensures)

pub loop-whole-preserved : goal.loop-whole-preserved
loop-whole-preserved c = let t = turn c.loop-whole.invariant _ _ c.next.ensures.steps.0 c.in-Some.is in
    loop_on t (counted t.holds c.record_size-bytes.ensures)

pub returns : goal.returns
unfolding text_of
returns c = omega (arith, loop_end c.loop-whole.invariant _ _ c.next.ensures.steps.0 c.in-None.is)
