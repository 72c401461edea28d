use mathlib.Core.Path.{sym, ap, ◌∙◌}
use native.Mathlib.Omega.{arith}
use Rattle.std.proofs.lemmas.Result.{err_from_is_err_and}
use Rattle.block_slice.specs.Cases.{measured_of}
use Rattle.repacking.proofs.Outcome.{needs_of, packed_short, packed_all, packed_none, can_pack, too_long, within-limit, block_refused, promised}
use Rattle.repacking.proofs.repack.Goals as goal

pub returns-then-slice-gt-MOST_BYTES : goal.returns-then-slice-gt-MOST_BYTES
returns-then-slice-gt-MOST_BYTES c = promised c.type_inv.slice (too_long _ _ (omega (arith, c.if-slice-gt-MOST_BYTES.true)))

pub returns-in_err-needed : goal.returns-in_err-needed
returns-in_err-needed c =
    let p = err_from_is_err_and c.from_residual.result c.from_residual.ensures.1 in
    rw (p.1, p.2) (promised c.type_inv.slice (block_refused _ _ (omega (arith, c.if-slice-gt-MOST_BYTES.false)) (sym (ap measured_of c.in_err-needed.was) ∙ c.judge_blocks.ensures)))

pub returns-then-out-needed : goal.returns-then-out-needed
returns-then-out-needed c =
    let its = needs_of _ _ (sym (ap measured_of c.in_ok-needed.was) ∙ c.judge_blocks.ensures) in
    promised c.type_inv.slice (within-limit _ _ (omega (arith, c.if-slice-gt-MOST_BYTES.false)) (packed_short _ _ its (omega (arith, c.if-out-needed.true))))

pub returns-then-needed-eq0 : goal.returns-then-needed-eq0
returns-then-needed-eq0 c =
    let its = needs_of _ _ (sym (ap measured_of c.in_ok-needed.was) ∙ c.judge_blocks.ensures) in
    promised c.type_inv.slice (within-limit _ _ (omega (arith, c.if-slice-gt-MOST_BYTES.false)) (packed_none _ _ its (omega (arith, c.if-needed-eq0.true))))

pub write_blocks-requires : goal.write_blocks-requires
write_blocks-requires c =
    let its = needs_of _ _ (sym (ap measured_of c.in_ok-needed.was) ∙ c.judge_blocks.ensures) in
    can_pack _ _ its (omega (arith, c.if-slice-gt-MOST_BYTES.false)) c.if-out-needed.false c.if-needed-eq0.false

pub returns : goal.returns
returns c =
    let its = needs_of _ _ (sym (ap measured_of c.in_ok-needed.was) ∙ c.judge_blocks.ensures) in
    promised c.type_inv.slice (within-limit _ _ (omega (arith, c.if-slice-gt-MOST_BYTES.false)) (packed_all _ _ its c.if-out-needed.false (c.write_blocks.ensures its.blocks its.found)))
