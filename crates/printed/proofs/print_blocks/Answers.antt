use native.Mathlib.Omega.{arith}
use Rattle.units.proofs.Packing.{fitted_is}
use Rattle.words.proofs.Laws.{all_below}
use Rattle.block_slice.specs.Blocks.{blocks_in, records_in}
use Rattle.block_slice.specs.Cases.{slice_refusal_of}
use Rattle.packing.specs.Packing.{repacked}
use Rattle.repacking.specs.Repacking.{repack}
use Rattle.printed.proofs.Outcome.{blocks_bound, slice_row, ended, never_repacked}
use Rattle.printed.proofs.print_blocks.Goals as goal

pub returns : goal.returns
unfolding repack
returns c =
    let b = c.args.slice.now in
    let below = all_below 256 b (λ i. omega (arith, c.type_inv.slice i)) in
    let t = c.repack-found.ensures in
    ended (λ bs. repacked (records_in bs)) 50 c.args.out.now slice_refusal_of never_repacked (blocks_in b) c.repack-found.result (omega (arith, blocks_bound b below)) (slice_row b below)
    (fitted_is _ t.packs.a_fits t.packs.b_fits) c.end_or_refusal.ensures t.outcome
