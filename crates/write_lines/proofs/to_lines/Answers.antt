use native.Mathlib.Omega.{arith}
use Rattle.std.proofs.lemmas.Result.{err_from_is_err_and}
use Rattle.words.proofs.Laws.{all_below}
use Rattle.block.proofs.Known.{accepted_by}
use Rattle.write_lines.proofs.Outcome.{lines_refused, lines_accepted, promised}
use Rattle.write_lines.proofs.to_lines.Goals as goal

pub write_text-requires : goal.write_text-requires
write_text-requires c = accepted_by _ c.judge.ensures c.in_ok-judge.was

-- a lent block has bytes
pub returns-in_err-judge : goal.returns-in_err-judge
returns-in_err-judge c = let b = c.args.block.now in
    let p = err_from_is_err_and c.from_residual.result c.from_residual.ensures.1 in
    rw (p.1, p.2) (promised b _ (all_below 256 b (λ i. omega (arith, c.type_inv.block i))) (lines_refused _ _ c.judge.ensures c.in_err-judge.was))

pub returns : goal.returns
returns c = let b = c.args.block.now in
    promised b _ (all_below 256 b (λ i. omega (arith, c.type_inv.block i))) (lines_accepted _ _ c.judge.ensures c.in_ok-judge.was c.write_text.ensures)
