use Rattle.std.proofs.Common.{refl, sym, ◌∙◌, arith}
use Rattle.words.specs.Scans.{within}
use Rattle.words.proofs.Scans.{scan_on, scan_stop}
use Rattle.read_cut.proofs.plain_upto.Goals as goal

pub returns-then-not-is_plain : goal.returns-then-not-is_plain
returns-then-not-is_plain c =
    (c.loop-i.invariant, omega arith, λ _. scan_stop (within 32 126) c.args.text.now c.loop-i.i _ (omega arith) refl (sym c.is_plain.ensures ∙ c.if-not-is_plain.true))

pub loop-i-preserved : goal.loop-i-preserved
loop-i-preserved c = omega (arith, c.loop-i.invariant, scan_on (within 32 126) c.args.text.now c.loop-i.i _ (omega arith) refl (sym c.is_plain.ensures ∙ c.if-not-is_plain.false))
