use Prim.Native.Nat.{◌+◌}
use mathlib.Core.Path.{◌≡◌, sym, ap, ◌∙◌}
use mathlib.Core.List.{◌∷◌}
use native.Mathlib.Omega.{arith}
use lib.ListN.{length, drop}
use lib.Seq.{slice, length-slice}
use Rattle.words.specs.Words.{words_of, bytes_of}
use Rattle.words.proofs.Laws.{length_words_of, words_bytes, bytes_slice, all_below}
use Rattle.block_steps.specs.Standing.{records_from}
use Rattle.block_steps.proofs.Steps.{step_found}
use Rattle.block_steps.proofs.Walking.{by_step, by_steps}
use Rattle.block_steps.proofs.lend.Goals as goal

pub returns-in_err-place : goal.returns-in_err-place
returns-in_err-place c = let ws = words_of c.args.block.now in
    rw c.from_residual.ensures (by_steps ws c.args.at.0 ∙ ap (by_step ws) (sym c.in_err-place.ensures))

pub end-end-requires : goal.end-end-requires
end-end-requires c = omega (arith, step_found _ _ _ (sym c.in_ok-place.ensures), length_words_of c.args.block.now)

pub span-requires : goal.span-requires
span-requires c = omega (arith, step_found _ _ _ (sym c.in_ok-place.ensures))

pub returns : goal.returns
returns c = let b = c.args.block.now in
    let ws = words_of b in
    let p = c.in_ok-place.place in
    let end = p.at.0 + p.size.0 in
    let found = step_found _ _ _ (sym c.in_ok-place.ensures) in
    let bytes : c.span.result.now ≡ bytes_of (slice p.at.0 end ws)
    = (rw c.end-end.ensures at c.span.ensures) ∙ bytes_slice p.at.0 end b (omega (arith, found)) (all_below 256 b (λ i. omega (arith, c.type_inv.block i))) in
    let are : words_of c.span.result.now ≡ slice p.at.0 end ws = ap words_of bytes ∙ words_bytes _ in
    rw c.end-end.ensures (
      by_steps ws c.args.at.0 ∙ ap (by_step ws) (sym c.in_ok-place.ensures) ∙ ap (λ r. r ∷ records_from 0 (drop end ws)) (sym are),
      bytes ∙ ap bytes_of (sym are),
      omega (arith, found, ap length are, length-slice p.at.0 end ws (omega (arith, found))),
    )
