use Rattle.std.proofs.Common.{◌*◌}
use Rattle.read_cut.specs.Lines.{PlainOn}
use Rattle.read_cut.proofs.plain_sixteens.Given as goal

abbrev pub invariant-loop-i : goal.invariant-loop-i
invariant-loop-i l = PlainOn l.text 0 (16 * l.i)
