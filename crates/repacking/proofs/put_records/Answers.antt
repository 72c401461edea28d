use mathlib.Core.Path.{refl}
use mathlib.Core.List.{[], ◌∷◌}
use native.Mathlib.Omega.{arith}
use Rattle.words.specs.Words.{words_of}
use Rattle.words.proofs.Laws.{all_below}
use Rattle.block_steps.specs.Standing.{records_left}
use Rattle.block_steps.proofs.Turns.{loop_start, turn, loop_on, loop_end}
use Rattle.repacking.proofs.Judging.{holds}
use Rattle.repacking.proofs.Putting.{putting_start, all-put, first_fits, first-put}
use Rattle.repacking.proofs.put_records.Goals as goal

pub loop-whole-init : goal.loop-whole-init
loop-whole-init c =
    let b = c.args.block.now in
    let below = all_below 256 b (λ i. omega (arith, c.type_inv.block i)) in
    let pre = c.requires in
    loop_start b below pre.0 c.records-whole-items.ensures.left c.into_iter-whole-iterator.ensures.into_iter_gives (putting_start (holds b below pre.0).each pre.1)

pub put_record-to-requires : goal.put_record-to-requires
put_record-to-requires c = let t = turn c.loop-whole.invariant _ _ c.next.ensures.steps.0 c.in-Some.is in
    (t.good, t.bytes, first_fits t.holds (words_of c.in-Some.whole.now ∷ []) (records_left c.next.new.self) refl)

pub loop-whole-preserved : goal.loop-whole-preserved
loop-whole-preserved c = let t = turn c.loop-whole.invariant _ _ c.next.ensures.steps.0 c.in-Some.is in
    loop_on t (first-put t.holds (words_of c.in-Some.whole.now ∷ []) (records_left c.next.new.self) refl c.put_record-to.ensures)

pub returns : goal.returns
returns c = all-put (loop_end c.loop-whole.invariant _ _ c.next.ensures.steps.0 c.in-None.is)
