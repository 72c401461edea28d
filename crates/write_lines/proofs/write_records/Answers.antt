use mathlib.Core.Path.{refl}
use native.Mathlib.Omega.{arith}
use Rattle.words.specs.Words.{words_of}
use Rattle.words.proofs.Laws.{all_below}
use Rattle.words.proofs.Writing.{start, fits, on, done}
use Rattle.block_steps.proofs.Turns.{loop_start, turn, loop_on, loop_end}
use Rattle.write_parts.specs.Laid.{ended}
use Rattle.write_lines.specs.Lines.{lines_of}
use Rattle.write_lines.specs.Text.{text_of}
use Rattle.write_lines.proofs.write_records.Goals as goal

pub loop-whole-init : goal.loop-whole-init
loop-whole-init c = let b = c.args.block.now in
    loop_start b (all_below 256 b (λ i. omega (arith, c.type_inv.block i))) c.requires.0 c.records-whole-items.ensures.left c.into_iter-whole-iterator.ensures.into_iter_gives start

-- the first record that is left
pub write_record-to-requires : goal.write_record-to-requires
unfolding text_of
write_record-to-requires c = let t = turn c.loop-whole.invariant _ _ c.next.ensures.steps.0 c.in-Some.is in
    record { good = t.good; room = fits t.holds (ended (lines_of (words_of c.in-Some.whole.now))) _ refl c.requires.1 }

pub loop-whole-preserved : goal.loop-whole-preserved
unfolding text_of
loop-whole-preserved c = let t = turn c.loop-whole.invariant _ _ c.next.ensures.steps.0 c.in-Some.is in
    loop_on t (on t.holds _ _ refl c.write_record-to.ensures)

pub returns : goal.returns
unfolding text_of
returns c = done (loop_end c.loop-whole.invariant _ _ c.next.ensures.steps.0 c.in-None.is) refl
