use mathlib.Core.Path.{sym, ap, ◌∙◌}
use native.Mathlib.Omega.{arith}
use Rattle.std.proofs.Common.{rules}
use Rattle.std.proofs.lemmas.Result.{err_from_is_err_and}
use Rattle.words.proofs.Laws.{all_below}
use Rattle.block_slice.specs.Cases.{measured_of}
use Rattle.repacking.proofs.Judging.{judging_start, all-judged, judged-stop, first, countable, judged-on}
use Rattle.repacking.proofs.judge_blocks.Goals as goal

pub loop-rest-init : goal.loop-rest-init
loop-rest-init c = let b = c.args.slice.now in judging_start b (all_below 256 b (λ i. omega (arith, c.type_inv.slice i)))

pub returns-in_err-size : goal.returns-in_err-size
returns-in_err-size c =
    let p = err_from_is_err_and c.from_residual.result c.from_residual.ensures.1 in
    rw (p.1, p.2) (judged-stop c.loop-rest.invariant (search rules) (sym c.judge_next.ensures ∙ ap measured_of c.in_err-size.was))

pub split_at-requires : goal.split_at-requires
split_at-requires c = (first c.loop-rest.invariant (search rules) (sym c.judge_next.ensures ∙ ap measured_of c.in_ok-size.was)).room

pub count_records-current-requires : goal.count_records-current-requires
count_records-current-requires c =
    let is = sym c.judge_next.ensures ∙ ap measured_of c.in_ok-size.was in
    rw c.split_at.ensures.front ((first c.loop-rest.invariant (search rules) is).good, countable c.loop-rest.invariant (search rules) is c.requires)

pub loop-rest-smaller : goal.loop-rest-smaller
loop-rest-smaller c =
    omega (arith, (first c.loop-rest.invariant (search rules) (sym c.judge_next.ensures ∙ ap measured_of c.in_ok-size.was)).least, c.split_at.ensures.back_len)

pub loop-rest-preserved : goal.loop-rest-preserved
loop-rest-preserved c =
    let is = sym c.judge_next.ensures ∙ ap measured_of c.in_ok-size.was in
    rw c.split_at.ensures.back (judged-on c.loop-rest.invariant (search rules) is c.requires (rw c.split_at.ensures.front at c.count_records-current.ensures))

pub returns : goal.returns
returns c = all-judged c.loop-rest.invariant (search rules) c.bytes_to.ensures
