use Prim.Native.Nat.{◌+◌, ◌-◌}
use mathlib.Core.Path.{sym, ◌∙◌}
use native.Mathlib.Omega.{arith}
use Rattle.words.proofs.Laws.{length_words_of}
use Rattle.block_steps.proofs.Steps.{step_found, find_on}
use Rattle.block_steps.proofs.find.Goals as goal

pub end-at-requires : goal.end-at-requires
end-at-requires c = omega (arith, step_found _ _ _ (sym c.in_ok-step.ensures), length_words_of c.args.block.now)

pub loop-preserved : goal.loop-preserved
loop-preserved c = let l = c.loop in
    rw c.end-at.ensures
    (l.invariant
    ∙ find_on _ l.at.0 _ {j = c.args.number + 1 - (l.counter + 1)} (omega arith) (omega arith) (sym c.in_ok-step.ensures))
