use native.Mathlib.Omega.{arith}
use Rattle.units.proofs.Packing.{fitted_is}
use Rattle.words.proofs.Laws.{all_below}
use Rattle.block.specs.Cases.{refusal_of}
use Rattle.block.specs.Judging.{judged}
use Rattle.block.specs.Records.{records_of}
use Rattle.write_lines.specs.Text.{text_of, to_lines}
use Rattle.printed.proofs.Outcome.{lines_bound, block_row, ended, never_lined}
use Rattle.printed.proofs.print_lines.Goals as goal

pub returns : goal.returns
unfolding to_lines
returns c =
    let b = c.args.block.now in
    let below = all_below 256 b (λ i. omega (arith, c.type_inv.block i)) in
    let t = c.to_lines-found.ensures in
    ended (λ _. text_of (records_of b)) 29 c.args.out.now refusal_of never_lined (judged b) c.to_lines-found.result (omega (arith, lines_bound b below)) (block_row b below)
    (fitted_is _ t.packs.a_fits t.packs.b_fits) c.end_or_refusal.ensures t.outcome
